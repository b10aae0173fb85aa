pub mod Entries
pub mod Fitting
pub mod Visits
pub mod Limits
pub mod Found

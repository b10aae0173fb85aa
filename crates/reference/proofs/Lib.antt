pub mod Backwards
pub mod Bounds
pub mod Entries
pub mod Fitting
pub mod Listed

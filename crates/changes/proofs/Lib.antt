pub mod Differences
pub mod Merging
pub mod NearOnes
pub mod Counts
pub mod Written

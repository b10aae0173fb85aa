pub mod Bounds
pub mod Numbers
pub mod Outcomes
pub mod Text
pub mod Cells

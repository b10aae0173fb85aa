pub mod Written
pub mod Rows
pub mod State
pub mod Replies

pub mod Replies
pub mod Writing

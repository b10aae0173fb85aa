pub mod Bytes
pub mod Commands
pub mod Files
pub mod Text
pub mod Whole

mod Rows
pub mod Encoding
pub mod Exact
pub mod Decoding
pub mod Cutting

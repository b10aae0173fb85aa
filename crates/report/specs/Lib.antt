pub mod Texts
pub mod SameText
pub mod Whole
pub mod Pieces
pub mod Streams

pub mod Flags
pub mod Noted

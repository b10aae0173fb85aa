mod Digits
mod FirstWords
pub mod RoundTrip
mod Splitting
mod Steps

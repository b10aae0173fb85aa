pub mod Numbers
pub mod Outcomes
pub mod Parsing
pub mod RoundTrip
pub mod Words
pub mod Writing

pub mod Packing
pub mod RoundTrip
pub mod Unpacking

mod Fits
mod RoundTrip

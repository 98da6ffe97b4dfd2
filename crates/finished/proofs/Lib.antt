pub mod Lengths
pub mod Laws
pub mod HeaderBack
pub mod RoundTrip
pub mod Vectors

pub mod Reached
pub mod Nineteen
pub mod Sent
pub mod Vectors

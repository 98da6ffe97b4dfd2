pub mod Places
pub mod Laws
pub mod Contents
pub mod Sums
pub mod Vectors

pub mod File
pub mod Checksum
pub mod Weights
pub mod Contents

pub mod Bits
pub mod First
pub mod Parts
pub mod Appending

pub mod Output
pub mod Quick
pub mod Example
pub mod Parts
pub mod Sent

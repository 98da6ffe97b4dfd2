pub mod Demands
pub mod Runs
pub mod Order
pub mod File
pub mod Seen
pub mod Cases
pub mod Examples

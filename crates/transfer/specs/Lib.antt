pub mod Transfer
pub mod Fault
pub mod Verify
pub mod Segment
pub mod Put

pub mod Replay
pub mod Quick
pub mod Example

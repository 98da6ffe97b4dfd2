pub mod Eof
pub mod Waiting
pub mod Completion
pub mod Busy

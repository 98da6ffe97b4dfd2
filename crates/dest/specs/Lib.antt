pub mod Metadata
pub mod Call
pub mod FileData

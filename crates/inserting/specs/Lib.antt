pub mod Insert
pub mod FileData
pub mod Metadata

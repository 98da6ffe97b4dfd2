pub mod Size
pub mod Metadata
pub mod Names
pub mod FileData
pub mod Eof

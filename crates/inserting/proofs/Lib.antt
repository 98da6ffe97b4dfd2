pub mod Laws
pub mod FileData

pub mod Laws
pub mod Started
pub mod FileData
pub mod Packets

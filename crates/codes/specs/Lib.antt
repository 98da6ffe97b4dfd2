pub mod Codes
pub mod Refusals

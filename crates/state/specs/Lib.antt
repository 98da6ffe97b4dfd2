pub mod State
pub mod Unfit

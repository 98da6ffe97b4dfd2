pub mod Tests
pub mod Lists
pub mod Pasting
pub mod Order
pub mod Below
pub mod Picked
pub mod Appends
pub mod Stretches

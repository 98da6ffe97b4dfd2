pub mod Laws
pub mod Said

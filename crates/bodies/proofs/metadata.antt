pub mod Laws
mod Names

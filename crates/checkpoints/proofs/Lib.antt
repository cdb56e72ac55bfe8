pub mod Laws
pub mod Wholes

pub mod Laws
pub mod Rule
pub mod Assured

pub mod Turns
pub mod Lent

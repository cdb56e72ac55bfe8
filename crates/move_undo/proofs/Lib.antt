pub mod Taken
pub mod Lent

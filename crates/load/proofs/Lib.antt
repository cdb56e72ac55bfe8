pub mod Loads
pub mod Longest
pub mod Lent

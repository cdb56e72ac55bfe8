pub mod Finds
pub mod Resumed

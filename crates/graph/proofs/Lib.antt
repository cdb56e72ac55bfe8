pub mod Loops
pub mod Columns
pub mod Onwards

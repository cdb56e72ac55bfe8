pub mod Reading
pub mod Loops

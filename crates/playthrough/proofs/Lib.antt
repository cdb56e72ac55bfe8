pub mod Held
pub mod Words

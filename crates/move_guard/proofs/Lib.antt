pub mod Answers
pub mod Stores
pub mod Facts
pub mod Parts
pub mod Lent
pub mod Past
pub mod Bounds

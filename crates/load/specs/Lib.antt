pub mod Load
pub mod Lent
pub mod Inner

pub mod Makes
pub mod Refusing
pub mod Lent

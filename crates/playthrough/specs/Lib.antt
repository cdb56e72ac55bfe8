pub mod Through
pub mod Lent

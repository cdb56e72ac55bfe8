pub mod Letters
pub mod Games
pub mod Lent

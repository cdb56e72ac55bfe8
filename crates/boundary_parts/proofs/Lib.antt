mod Rows
mod Loops
pub mod Games
pub mod Shows

pub mod Memory
pub mod Inner
pub mod Shown
pub mod Games

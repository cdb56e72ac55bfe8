pub mod Finishes
pub mod Lent
pub mod Run

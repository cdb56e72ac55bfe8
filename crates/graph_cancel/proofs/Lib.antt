pub mod Loops
pub mod Bitsets
pub mod Folds
pub mod Rounds

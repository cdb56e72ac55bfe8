pub mod Cycles
pub mod Lowering
pub mod Cancelling

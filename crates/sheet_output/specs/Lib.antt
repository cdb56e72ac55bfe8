pub mod Outputs
pub mod Inputs

-- Refusals: their numbers.
pub mod Refusals

pub mod Steps
pub mod Amounts
pub mod Shifts
pub mod Inner

pub mod Reports
pub mod Rows

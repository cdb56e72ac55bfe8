pub mod Choice
pub mod Lists
pub mod Members
pub mod Inner

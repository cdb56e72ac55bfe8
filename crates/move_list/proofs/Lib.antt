pub mod Coded
pub mod Worded
pub mod Going
pub mod Refused

pub mod Advices
pub mod Choosing
pub mod Parts
pub mod Hints
pub mod Views

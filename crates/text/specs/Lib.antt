pub mod Sizes
pub mod Room
pub mod Text
pub mod Views
pub mod Results

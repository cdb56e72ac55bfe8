pub mod Ends
pub mod Fields
pub mod FieldColumns
pub mod Accepted
pub mod Lengths

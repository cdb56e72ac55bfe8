pub mod Table
pub mod Catalog

pub mod Fields
pub mod Rows
pub mod Catalog
pub mod Columns
pub mod Classes
pub mod Lawful
pub mod Cases

pub mod Lists
pub mod Settings
pub mod Sketches
pub mod Catalog
pub mod Columns
pub mod Classes
pub mod Expressions
pub mod Cases

pub mod Literal
pub mod Columns
pub mod Unary
pub mod Binary
pub mod Cases

pub mod Fields
pub mod Expressions
pub mod Operands
pub mod Lawful
pub mod Cases

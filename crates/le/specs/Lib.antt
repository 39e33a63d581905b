pub mod Fields
pub mod Integers
pub mod Floats

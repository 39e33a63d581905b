pub mod Lookup
pub mod Recursion

pub mod Predicate
pub mod Split

pub mod Predicate
pub mod Cases

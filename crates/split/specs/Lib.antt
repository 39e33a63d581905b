pub mod Conjuncts
pub mod Cases

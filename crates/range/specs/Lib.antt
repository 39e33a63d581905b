pub mod Selectivity
pub mod Range
pub mod Cases

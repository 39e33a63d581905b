pub mod Intervals
pub mod Fraction
pub mod Intersection
pub mod Cases

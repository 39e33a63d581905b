pub mod Distinct
pub mod Cases

pub mod Estimates
pub mod Bytes
pub mod Cases

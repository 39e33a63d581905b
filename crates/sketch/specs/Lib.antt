pub mod Places
pub mod Frequent
pub mod Cases

pub mod Reader
pub mod Claim
pub mod Demand
pub mod Cases

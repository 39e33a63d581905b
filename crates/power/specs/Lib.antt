pub mod Power
pub mod Cases

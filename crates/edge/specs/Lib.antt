pub mod Places
pub mod Oriented
pub mod Inputs
pub mod Figures
pub mod Edge
pub mod Cases

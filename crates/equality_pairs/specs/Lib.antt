pub mod Padded
pub mod Pairs
pub mod NonNull
pub mod Cases

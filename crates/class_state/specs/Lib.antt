pub mod State
pub mod Distincts
pub mod Bytes
pub mod Sizes

pub mod Isqrt
pub mod Root
pub mod Digits
pub mod Guess
pub mod NearestRoot
pub mod Cases

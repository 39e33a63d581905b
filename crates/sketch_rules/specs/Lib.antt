pub mod Sketches
pub mod Lawful
pub mod Cases

pub mod Reading
pub mod Encoding
pub mod Fields
pub mod Cases

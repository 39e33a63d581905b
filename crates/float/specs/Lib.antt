pub mod Order
pub mod Ranges
pub mod Integers
pub mod Tens

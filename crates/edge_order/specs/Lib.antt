pub mod Sort
pub mod Order
pub mod Cases

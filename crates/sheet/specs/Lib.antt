pub mod Table
pub mod Order
pub mod Rules
pub mod Walk
pub mod Check
pub mod Sheet
pub mod Cases

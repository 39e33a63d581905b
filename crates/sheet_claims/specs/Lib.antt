pub mod Commands
pub mod Kinds
pub mod Stores
pub mod Claims
pub mod Tallies

pub mod Kinds
pub mod Verdicts
pub mod Tallies

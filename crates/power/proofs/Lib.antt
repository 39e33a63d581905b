pub mod Powers
pub mod Exponents
pub mod Within
pub mod Fractions

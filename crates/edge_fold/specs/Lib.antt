pub mod Sides
pub mod Edges
pub mod Fold
pub mod Coverages

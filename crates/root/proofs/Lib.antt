pub mod Squares
pub mod Roots
pub mod Scaled
pub mod Quick
pub mod RootValues
pub mod RootLaws
pub mod NearestRoot

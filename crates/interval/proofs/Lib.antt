pub mod WidthLaws
pub mod FractionCases

pub mod PredicateLaws
pub mod SplitLaws

pub mod PredicateLaws

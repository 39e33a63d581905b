pub mod StoreLaws
pub mod PrefixLaws
pub mod PlaceLaws

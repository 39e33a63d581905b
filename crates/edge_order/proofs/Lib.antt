pub mod SortLaws
pub mod PlaceLaws
pub mod OrderLaws

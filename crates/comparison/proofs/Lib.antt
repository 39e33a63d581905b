pub mod PlaceLaws
pub mod TenthLaws

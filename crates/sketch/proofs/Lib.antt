pub mod ItemLaws
pub mod PlaceLaws
pub mod EqualLaws
pub mod ValueLaws
pub mod LookupLaws
pub mod NumberLaws

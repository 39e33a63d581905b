pub mod SumLaws
pub mod NumberLaws

pub mod BitLaws
pub mod NumberLaws

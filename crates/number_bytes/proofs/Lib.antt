pub mod NumberLaws
pub mod FilledLaws

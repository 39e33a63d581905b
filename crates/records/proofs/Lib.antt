pub mod ListLaws
pub mod KindLaws

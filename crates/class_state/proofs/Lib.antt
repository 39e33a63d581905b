pub mod MappedLaws
pub mod UnionLaws
pub mod ApartLaws
pub mod ClassLaws
pub mod ProfileLaws
pub mod SizeLaws
pub mod CountLaws
pub mod ReturnedLaws

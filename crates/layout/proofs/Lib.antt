pub mod OrderLaws
pub mod LayoutLaws
pub mod FloatLaws

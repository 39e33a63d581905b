pub mod ReadingLaws
pub mod WritingLaws
pub mod FloatLaws
pub mod EncodingLaws
pub mod FieldLaws

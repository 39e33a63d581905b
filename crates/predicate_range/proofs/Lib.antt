pub mod NumberRange
pub mod FoundRange
pub mod LeafRange
pub mod SketchRange
pub mod ColumnRange
pub mod PartRange
pub mod ComparisonRange
pub mod RangeLaws

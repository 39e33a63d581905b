pub mod SumLaws
pub mod SlotLaws
pub mod SplitRangeLaws

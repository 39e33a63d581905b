pub mod WholeFractionLaws
pub mod ContinuousLaws
pub mod RangeFractionLaws
pub mod DistinctLaws

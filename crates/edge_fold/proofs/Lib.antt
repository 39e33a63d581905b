pub mod SideLaws
pub mod CoverageLaws
pub mod CoverageOrder
pub mod EdgeLaws
pub mod FoldLaws
pub mod CountLaws

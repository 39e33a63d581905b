pub mod PaddedLaws
pub mod NonNullLaws
pub mod PairLaws
pub mod MarkedLaws

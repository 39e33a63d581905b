pub mod EachLaws
pub mod RowLaws
pub mod ScalarLaws
pub mod SketchLaws
pub mod ExpressionLaws
pub mod OperandLaws
pub mod ClassLaws
pub mod LawfulLaws

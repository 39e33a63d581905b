pub mod SketchJoin
pub mod Cases

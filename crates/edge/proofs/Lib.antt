pub mod OrientedLaws
pub mod EdgeLaws

pub mod RoomLaws
pub mod ValueLaws
pub mod SketchLaws

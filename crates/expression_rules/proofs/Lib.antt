pub mod RunLaws
pub mod RoomLaws
pub mod ExpressionLaws
pub mod NumberLaws

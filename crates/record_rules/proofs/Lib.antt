pub mod RoomLaws
pub mod RowLaws
pub mod TableLaws
pub mod KeyLaws
pub mod ColumnLaws
pub mod ClassLaws

pub mod VerdictLaws
pub mod PlaceLaws
pub mod SectionLaws
pub mod AcceptedLaws
pub mod SheetLaws
pub mod WalkLaws
pub mod RoomLaws
pub mod OwnerLaws

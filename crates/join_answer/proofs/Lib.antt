pub mod JoinLaws
pub mod BoundLaws

pub mod ResidualLaws
pub mod JoinLaws

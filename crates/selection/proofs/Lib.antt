pub mod SelectedLaws
pub mod WriteLaws

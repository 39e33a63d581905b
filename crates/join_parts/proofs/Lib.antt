pub mod CopyLaws
pub mod ConjunctLaws
pub mod PartLaws

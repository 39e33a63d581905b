pub mod FieldLaws
pub mod OntoLaws

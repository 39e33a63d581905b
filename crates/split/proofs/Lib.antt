pub mod ConjunctLaws

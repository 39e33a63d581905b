pub mod RuleLaws
pub mod LoopLaws

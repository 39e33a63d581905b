pub mod LookupLaws
pub mod RecursionLaws
pub mod NotedLaws

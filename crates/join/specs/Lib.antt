pub mod Residual
pub mod Conjuncts
pub mod Join
pub mod Joined
pub mod Totals

pub mod Honest
pub mod Verdicts
pub mod Inner

pub mod Given
pub mod Verdicts
pub mod Inner

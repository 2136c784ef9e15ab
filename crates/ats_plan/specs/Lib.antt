pub mod Files
pub mod Plan
pub mod Runs
pub mod Inner

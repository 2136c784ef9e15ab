pub mod Impacts
pub mod Sentinels
pub mod Found
pub mod DocumentLeaf
pub mod Inner

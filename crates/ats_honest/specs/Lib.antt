pub mod Terms
pub mod Lanes
pub mod Documents
pub mod Honest
pub mod Inner

pub mod Archive
pub mod Trees
pub mod Root
pub mod Ours
pub mod Places
pub mod Own
pub mod OwnShown
pub mod Inner

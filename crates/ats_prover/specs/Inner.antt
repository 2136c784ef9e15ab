-- What the functions of the room promise one another. No public contract rests on it.

pub mod Found
pub mod Nodes
pub mod Places
pub mod Writing

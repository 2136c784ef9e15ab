-- What the functions of the room promise one another. No public contract rests on it.
pub mod Places
pub mod Rests
pub mod Kept
pub mod Checked

-- What the functions of the room promise one another. No public contract rests on it.

pub mod Compared
pub mod Found
pub mod Honest
pub mod FirstDifference

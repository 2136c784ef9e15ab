-- What the functions of the room promise one another. No public contract rests on it.

pub mod Stops
pub mod Storing
pub mod Catalogs

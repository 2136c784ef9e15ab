-- What the functions of the room promise one another. No public contract rests on it.

pub mod Sweeping
pub mod Trial
pub mod Audited
pub mod Catalogs

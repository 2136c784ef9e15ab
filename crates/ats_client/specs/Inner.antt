-- What the functions of the room promise one another. No public contract rests on it.

pub mod Bounds
pub mod KeptTerms
pub mod Noting
pub mod Sections
pub mod Seen
pub mod SeenLists
pub mod SeenTerms

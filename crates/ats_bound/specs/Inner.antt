-- What the functions of the room promise one another. No public contract rests on it.

pub mod Best
pub mod Cursors
pub mod MetDocuments
pub mod Pages
pub mod Placed
pub mod Running
pub mod Scored
pub mod Stopped

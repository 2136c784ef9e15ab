-- What the functions of the room promise one another. No public contract rests on it.

pub mod Pending
pub mod Reading
pub mod PiecePosition
pub mod ReaderState
pub mod Table

-- What the functions of the room promise one another. No public contract rests on it.

pub mod Conversation
pub mod Links
pub mod Outcome
pub mod Serving
pub mod Stops

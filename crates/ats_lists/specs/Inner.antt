-- What the functions of the room promise one another. No public contract rests on it.

pub mod BlockRoots
pub mod ChainClash
pub mod Gathered
pub mod KeptChain

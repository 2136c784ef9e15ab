mod Shifted
mod Merges
mod Falls
mod Steps
mod Tagged
mod RestsAreTop
mod KeptRows
mod Soundness
mod Refusals
mod Left
mod Settling
mod OneShard
pub mod Public

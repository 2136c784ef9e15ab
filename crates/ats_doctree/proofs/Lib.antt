pub mod Public
mod Counts
mod Documents
mod Positions
mod LeafLemmas

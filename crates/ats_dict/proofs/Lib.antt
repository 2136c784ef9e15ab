pub mod Public
mod HeaderLemmas
mod Sentinels
mod Packing
mod LeafLemmas

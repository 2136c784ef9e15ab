pub mod Public
mod DocumentLemmas
mod LogLemmas
mod NumberLemmas
mod PartedLemmas
mod Finding
mod Fronts
mod BlockLemmas
mod ChainBinding
mod ChainOutcomes
mod ChainLaws
mod ChainClashes
mod FormatLemmas
mod FormatLaws
mod FormatPlaces
mod KeptChains

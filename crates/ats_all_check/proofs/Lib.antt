pub mod Public
mod Finds
mod Present
mod Passing
mod Showing
mod Soundness
mod Refusals
mod Meaning

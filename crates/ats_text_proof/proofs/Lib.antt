pub mod Public
mod Rebuilt
mod Parts
mod Needs
mod Given
mod Verdicts
mod Clashing
mod Joined

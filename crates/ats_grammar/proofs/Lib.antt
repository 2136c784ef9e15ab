pub mod Public
mod Spelling
mod Fronts
mod Staying
mod Pieces
mod Positions
mod Headers
mod Runs

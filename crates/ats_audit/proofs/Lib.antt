pub mod Public
mod Told
mod Kept

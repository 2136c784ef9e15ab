pub mod Public
mod Joined
mod Passing
mod Fields
mod AllShown
mod Roots
mod OwnRoots

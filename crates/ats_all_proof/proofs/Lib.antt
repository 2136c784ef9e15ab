pub mod Public
mod Told
mod Cuts
mod Accepted

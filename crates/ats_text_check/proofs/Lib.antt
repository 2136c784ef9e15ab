pub mod Public
mod Fields
mod Refusals
mod Own

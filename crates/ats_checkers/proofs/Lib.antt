pub mod Public
mod Sound

pub mod Public
mod Sharing
mod Asked
mod Taking
mod Scoring
mod Steps
mod Appending
mod Spelling
mod Shards
mod Frames

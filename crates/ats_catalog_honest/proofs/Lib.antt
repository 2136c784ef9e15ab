pub mod Public
mod Falls
mod Shared
mod Within
mod Edges
mod Accepted
mod Sorted
mod Rankings
mod Exact
mod Above
mod Listed
mod Reached
mod Exists
mod One
mod Unclashing
mod ByScores

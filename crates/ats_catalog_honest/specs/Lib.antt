pub mod Shares
pub mod Ranking
pub mod Honest

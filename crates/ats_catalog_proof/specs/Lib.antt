pub mod RankingState
pub mod Ranking
pub mod Written
pub mod ProvingState
pub mod Proving
pub mod Inner

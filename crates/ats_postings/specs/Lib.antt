pub mod Postings
pub mod Lists
pub mod Inner

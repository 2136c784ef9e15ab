pub mod Verdicts
pub mod Made

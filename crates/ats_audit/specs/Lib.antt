pub mod Verdicts
pub mod Sweeps

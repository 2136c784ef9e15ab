pub mod Public
mod Completeness
mod Prefixes
mod DigestBytes
mod Made
mod LawLemmas
mod FirstDifferences
mod Compares
mod Ranging
mod Told
mod HonestStrings
mod Finding
mod Verdicts

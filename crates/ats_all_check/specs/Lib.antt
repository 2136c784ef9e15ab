pub mod Documents
pub mod Rules
pub mod Headline
pub mod Bytes
pub mod Inner

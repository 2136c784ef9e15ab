pub mod Merge
pub mod Top
pub mod Accepts
pub mod Strings
pub mod Headline
pub mod Bytes
pub mod Inner

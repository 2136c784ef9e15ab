pub mod Header
pub mod Entry
pub mod Dictionary
pub mod Found
pub mod Inner

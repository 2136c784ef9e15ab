pub mod Catalog
pub mod Grammar
pub mod Value
pub mod Bytes
pub mod Seen
pub mod Strings
pub mod Growth

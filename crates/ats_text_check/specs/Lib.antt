pub mod Grammar
pub mod Value
pub mod Accepts
pub mod Bytes
pub mod Strings
pub mod Cursor

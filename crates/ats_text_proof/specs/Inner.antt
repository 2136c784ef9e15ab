pub mod Clashes
pub mod TextString

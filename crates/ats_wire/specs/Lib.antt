pub mod Asking
pub mod Requests
pub mod Replies
pub mod Moving
pub mod Connections
pub mod Feeding
pub mod Inner

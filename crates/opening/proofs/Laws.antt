pub mod Unread
pub mod Unique
pub mod Opening

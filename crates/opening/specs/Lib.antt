pub mod Opening
pub mod Unread

pub mod Unique
pub mod Reading

pub mod Jobs
pub mod Reading
pub mod Bounds

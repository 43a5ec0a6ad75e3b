pub mod Unique
pub mod AllNames
pub mod Labels
pub mod Gifti

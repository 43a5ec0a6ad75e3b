pub mod Promises
pub mod AllNames
pub mod Labels
pub mod Gifti

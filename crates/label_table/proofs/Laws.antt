pub mod Labels
pub mod Told
pub mod Codes
pub mod Walks

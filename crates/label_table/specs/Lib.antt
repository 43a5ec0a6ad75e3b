pub mod Walks
pub mod Labels
pub mod Codes

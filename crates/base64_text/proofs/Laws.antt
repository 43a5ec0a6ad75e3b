pub mod Letters
pub mod Base64
pub mod Fours

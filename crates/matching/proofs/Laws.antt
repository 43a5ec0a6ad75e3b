pub mod Side
pub mod Beside

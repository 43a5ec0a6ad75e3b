pub mod Lengths
pub mod Limits

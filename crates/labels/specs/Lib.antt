pub mod Dimensions
pub mod Twice

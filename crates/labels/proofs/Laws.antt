pub mod Good
pub mod Dimensions
pub mod Lent
pub mod Twice

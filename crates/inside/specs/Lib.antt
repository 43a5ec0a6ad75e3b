pub mod Way
pub mod Walked
pub mod One
pub mod Treads

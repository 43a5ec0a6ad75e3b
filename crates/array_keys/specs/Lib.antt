pub mod Ahead
pub mod Gathered
pub mod Rows

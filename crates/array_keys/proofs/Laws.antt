pub mod Ahead
pub mod Low
pub mod Gathered
pub mod Rows

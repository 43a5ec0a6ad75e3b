pub mod Table
pub mod Checks

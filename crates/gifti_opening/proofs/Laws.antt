pub mod Opening
pub mod Passed
pub mod Arrays

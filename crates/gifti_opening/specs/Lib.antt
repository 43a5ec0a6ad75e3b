pub mod Arrays
pub mod Opening
pub mod Passed

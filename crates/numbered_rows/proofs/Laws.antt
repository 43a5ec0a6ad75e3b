pub mod Agree
pub mod Arrays
pub mod Checks

pub mod Tally
pub mod Ready
pub mod Arrays

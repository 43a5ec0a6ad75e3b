pub mod Tally
pub mod Array
pub mod Arrays
pub mod Search

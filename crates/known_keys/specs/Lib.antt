pub mod Order
pub mod Known
pub mod Sieve

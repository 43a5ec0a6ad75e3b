pub mod Order
pub mod Search
pub mod Sieve
pub mod Among
pub mod Turns

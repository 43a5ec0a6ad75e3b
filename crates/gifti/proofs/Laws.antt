pub mod Arrays
pub mod Located
pub mod Unseen
pub mod Keys
pub mod Held

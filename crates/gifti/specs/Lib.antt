pub mod Rows
pub mod Arrays
pub mod Conditions
pub mod Keys
pub mod Located
pub mod Held

pub mod Decision
pub mod Choosing

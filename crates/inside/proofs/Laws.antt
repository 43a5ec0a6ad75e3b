pub mod Written
pub mod Along
pub mod There
pub mod One
pub mod Treads
pub mod Walked

pub mod Words
pub mod Fronts

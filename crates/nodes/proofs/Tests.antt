pub mod Fronts
pub mod Data

pub mod Came
pub mod Lengths
pub mod Line
pub mod Parts

pub mod Numbered
pub mod Sum

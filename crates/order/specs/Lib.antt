pub mod Resorted
pub mod Stretch

pub mod Reading
pub mod Naming
pub mod Later

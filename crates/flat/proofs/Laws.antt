pub mod Flat
pub mod Complement

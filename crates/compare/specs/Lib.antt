pub mod Refused
pub mod Change

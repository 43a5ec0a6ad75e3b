pub mod Places
pub mod Listing
pub mod Models

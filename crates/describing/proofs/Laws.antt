pub mod Listing
pub mod Room
pub mod Said
pub mod Series

pub mod Walk
pub mod Maps
pub mod Placed
pub mod Unique

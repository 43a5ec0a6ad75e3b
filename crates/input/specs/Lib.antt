pub mod Arrived
pub mod Limits
pub mod Lengths
pub mod Parted

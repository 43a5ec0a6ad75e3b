pub mod Way
pub mod Treads
pub mod Answered
pub mod Placed

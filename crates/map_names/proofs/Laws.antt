pub mod Held
pub mod Reached
pub mod Answered
pub mod Placed
pub mod Treads

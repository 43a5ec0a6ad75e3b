pub mod Matched
pub mod Tagged
pub mod Compare
pub mod Accepted

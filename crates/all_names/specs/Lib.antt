pub mod Names
pub mod Walk

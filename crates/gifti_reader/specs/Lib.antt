pub mod Number
pub mod Keys

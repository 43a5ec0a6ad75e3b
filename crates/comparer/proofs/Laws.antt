pub mod Output
pub mod Lines
pub mod Room

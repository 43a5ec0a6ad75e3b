pub mod Room
pub mod Series
pub mod Said

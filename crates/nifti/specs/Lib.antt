pub mod Front
pub mod Header
pub mod Fields
pub mod Extensions
pub mod File
pub mod Model

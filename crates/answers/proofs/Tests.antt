pub mod Paper
pub mod Examples

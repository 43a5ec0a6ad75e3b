pub mod Fields
pub mod Lists
pub mod File
pub mod Header
pub mod Reads
pub mod Zeros
pub mod Walk
pub mod Front

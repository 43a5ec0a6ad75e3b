pub mod Documents
pub mod Tags
pub mod Text
pub mod LineEnds
pub mod Data
pub mod Utf8

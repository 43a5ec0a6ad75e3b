pub mod Pieces
pub mod Files

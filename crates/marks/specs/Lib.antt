pub mod Marks
pub mod Apart

pub mod First
pub mod Alike
pub mod Cut
pub mod Breaks

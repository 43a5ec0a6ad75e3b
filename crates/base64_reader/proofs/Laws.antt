pub mod Letters
pub mod Groups
pub mod Quick
pub mod Sixteen
pub mod Texts

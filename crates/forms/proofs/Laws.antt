pub mod Forms
pub mod Passed

pub mod Numbers
pub mod Told
pub mod Unique
pub mod Lists
pub mod Sides
pub mod Front

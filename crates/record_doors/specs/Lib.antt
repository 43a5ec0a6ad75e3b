pub mod Numbers
pub mod Promises
pub mod Lists
pub mod Sides
pub mod Front

pub mod Lists
pub mod Refusals
pub mod Ranges
pub mod Permuted
pub mod Filling
pub mod Reordered

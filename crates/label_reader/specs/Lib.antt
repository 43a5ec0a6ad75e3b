pub mod Way
pub mod Before
pub mod Keys
pub mod Names
pub mod Told

pub mod Resorted

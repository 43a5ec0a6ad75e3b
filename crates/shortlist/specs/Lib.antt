pub mod Faults
pub mod Runs
pub mod Making
pub mod Asking
pub mod Made
pub mod Search

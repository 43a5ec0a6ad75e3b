pub mod Halving
pub mod OneWay
pub mod Near
pub mod Permuted
pub mod Refusal

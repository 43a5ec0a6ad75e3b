pub mod InTurn
pub mod Numbers

pub mod Card
pub mod Written

pub mod Written
pub mod Parts

pub mod Written
pub mod Tables
pub mod Parts

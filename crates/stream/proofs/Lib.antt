pub mod Parts
pub mod Tells

pub mod Measures
pub mod Transform

pub mod Ready
pub mod Vectors

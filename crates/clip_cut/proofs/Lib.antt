pub mod Cutting
pub mod Halves
pub mod Keeping

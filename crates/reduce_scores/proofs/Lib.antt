pub mod Over
pub mod Imaged

pub mod Fields
pub mod Hulls

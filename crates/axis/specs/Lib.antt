pub mod Search
pub mod Meaning
pub mod Ranges

pub mod Ridges
pub mod Again

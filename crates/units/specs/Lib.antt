pub mod Units
pub mod Limits

pub mod Fills
pub mod Lists

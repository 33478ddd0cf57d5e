pub mod Ends
pub mod Held

pub mod Puts
pub mod Lengths
pub mod Calls

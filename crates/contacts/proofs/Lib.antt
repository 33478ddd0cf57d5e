pub mod Cases
pub mod Ends
pub mod Turned
pub mod Owners

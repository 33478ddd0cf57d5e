pub mod Cases
pub mod Told

pub mod Digits
pub mod Bytes

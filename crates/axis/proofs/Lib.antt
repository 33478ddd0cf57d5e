pub mod Ready
pub mod Answers
pub mod Always
pub mod Ranges

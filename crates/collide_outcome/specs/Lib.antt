pub mod Builds
pub mod Answers
pub mod Served
pub mod Told

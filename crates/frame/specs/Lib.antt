pub mod Frames
pub mod Lines
pub mod Answers
pub mod inner

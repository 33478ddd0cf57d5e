pub mod Images
pub mod Scores

pub mod Pairs
pub mod inner

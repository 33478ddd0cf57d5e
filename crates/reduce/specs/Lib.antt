pub mod Reduce
pub mod Chosen
pub mod inner

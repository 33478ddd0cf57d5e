pub mod Step
pub mod inner

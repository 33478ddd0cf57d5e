pub mod Shell
pub mod inner

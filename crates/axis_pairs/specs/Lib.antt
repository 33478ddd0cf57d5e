pub mod All
pub mod inner

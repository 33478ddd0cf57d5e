pub mod Pools
pub mod inner

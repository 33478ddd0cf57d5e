pub mod Farthest
pub mod Bounded
pub mod Within

pub mod Bounded
pub mod Within

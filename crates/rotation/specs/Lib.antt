pub mod Rotation
pub mod Bounded
pub mod Within

pub mod Rounded
pub mod Scalar
pub mod Arithmetic
pub mod Shape
pub mod Awaited
pub mod Bounded
pub mod Within

pub mod Bound
pub mod Squares
pub mod LowBits
pub mod Within

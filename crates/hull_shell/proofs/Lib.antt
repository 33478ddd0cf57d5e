pub mod Reach
pub mod Theorem
pub mod Flood
pub mod Marking

pub mod Passing
pub mod Sifting
pub mod Marking
pub mod Reach
pub mod Products
pub mod Passed
pub mod Rows

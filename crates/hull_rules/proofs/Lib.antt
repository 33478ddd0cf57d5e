pub mod Linked
pub mod Marks
pub mod Named
pub mod Ranges

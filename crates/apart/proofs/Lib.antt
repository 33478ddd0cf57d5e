pub mod Through
pub mod Early
pub mod Axes
pub mod Asked

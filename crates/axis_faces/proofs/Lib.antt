pub mod Bounded
pub mod Starts
pub mod Lanes
pub mod Facing
pub mod Found

pub mod Limits
pub mod Joined
pub mod Placed

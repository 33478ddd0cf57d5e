pub mod Lengths
pub mod Accept

pub mod Laws
pub mod Answer
pub mod Support
pub mod Accepted
pub mod Hulls

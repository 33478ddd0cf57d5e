pub mod Batches
pub mod Rings

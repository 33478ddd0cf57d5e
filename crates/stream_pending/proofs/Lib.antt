pub mod Scans
pub mod Holds

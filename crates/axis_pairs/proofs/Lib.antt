pub mod Tables
pub mod Turned

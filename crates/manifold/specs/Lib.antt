pub mod Records
pub mod Pairs
pub mod Polygons
pub mod Kinds

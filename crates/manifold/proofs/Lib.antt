pub mod Polygons
pub mod Types

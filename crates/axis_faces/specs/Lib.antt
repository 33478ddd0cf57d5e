pub mod Support
pub mod Faces
pub mod inner

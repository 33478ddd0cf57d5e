pub mod Faces
pub mod EdgePairs
pub mod inner

pub mod Every
pub mod Question
pub mod Axes
pub mod inner

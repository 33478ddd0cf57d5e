pub mod Numbers
pub mod Rule8
pub mod Accepted
pub mod inner

pub mod Every
pub mod Laws
pub mod Metres

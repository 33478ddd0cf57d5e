pub mod Fans
pub mod Below

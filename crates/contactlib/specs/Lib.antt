pub mod Abi
pub mod Framed
pub mod Lent

pub mod Takes
pub mod Signs

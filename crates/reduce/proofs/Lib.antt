pub mod Cases
pub mod Holding
pub mod Listed
pub mod Standing
pub mod Answers
pub mod Picks
pub mod Taking
pub mod Chosen

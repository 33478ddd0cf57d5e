pub mod Tests
pub mod Counting
pub mod Orbits
pub mod Tours
pub mod Facts
pub mod Rounds
pub mod Along
pub mod Numbered

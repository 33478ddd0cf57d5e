pub mod Tests
pub mod Walks
pub mod Links
pub mod Rules
pub mod Numbers
pub mod Rounds
pub mod inner

-- What functions inside the project ask of each other, and how their loops work. It is proved at every call, so it is nothing to believe.
pub mod Ends

-- What functions inside the project say to each other. It is proved at every call, so it is nothing to believe.
pub mod Faults

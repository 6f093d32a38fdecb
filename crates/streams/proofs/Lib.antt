-- What is read, and the listing of all of it.
pub mod Whole
pub mod Joining

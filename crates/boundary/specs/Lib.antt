-- To be believed: what the calls for other languages answer, and what they leave in a lent buffer.
pub mod Packed
pub mod Kinds
pub mod Calls
pub mod Examples

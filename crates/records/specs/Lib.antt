-- To be believed: what records are, how they are read and what is written. Read these in this order. Computing and Laid
-- alone are inner.
pub mod Numbers
pub mod Bytes
pub mod Reading
pub mod Writing
pub mod Computing
pub mod Examples
pub mod Laid

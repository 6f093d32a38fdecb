-- To be believed: filtering, and what its answers say. Halves and Computing alone are inner.
pub mod Filter
pub mod Halves
pub mod Numbers
pub mod Computing
pub mod Examples
pub mod LargerExample

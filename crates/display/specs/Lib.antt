-- To be believed: what the listing of a byte string is, and what the call answers. Computing alone is inner.
pub mod Listing
pub mod Numbers
pub mod Computing
pub mod Examples

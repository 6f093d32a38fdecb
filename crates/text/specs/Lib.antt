-- To be believed: numbers in decimal, lines, and terms with commas, as lists of bytes. Put and Page are inner.
pub mod Text
pub mod Put
pub mod Page
pub mod Examples

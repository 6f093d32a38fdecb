-- To be believed: what a year means. Read these first, in this order. Computing, SumsOf and Within alone are inner.
pub mod Year
pub mod Bound
pub mod Sums
pub mod Sound
pub mod SoundYear
pub mod Doors
pub mod ByHand
pub mod Narrow
pub mod Imbalance
pub mod Plans
pub mod Numbers
pub mod Computing
pub mod Examples
pub mod SumsOf
pub mod Within

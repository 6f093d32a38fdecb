-- Inner, not to be believed: rule 11 as the code computes it.
pub mod Bins
pub mod Sizes
pub mod Thresholds

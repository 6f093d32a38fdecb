-- Inner, not to be believed: rule 12 as the code computes it.
pub mod Lightest
pub mod Opened
pub mod Verdicts

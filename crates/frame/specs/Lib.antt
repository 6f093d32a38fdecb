-- Inner, not to be believed: what contracts of the rules' code speak of.
pub mod State
pub mod Bounds
pub mod Verdicts

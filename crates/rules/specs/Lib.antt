-- To be believed: the twelve rules of a round, family by family, and what each step of them rests on. Computing alone is inner.
pub mod RuleNumbers
pub mod Step
pub mod Bounds
pub mod Lists
pub mod Spares
pub mod Packing
pub mod Neighbours
pub mod Thresholds
pub mod Round
pub mod Narrower
pub mod Facts
pub mod Reasons
pub mod FactAt
pub mod Computing
pub mod Examples
pub mod ReasonExamples
pub mod NeighbourExamples

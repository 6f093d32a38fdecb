-- Laws for the proofs of the code, and for those who call it.
pub mod SparingLaws
pub mod WalkLaws
pub mod WalkRows

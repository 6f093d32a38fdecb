-- Laws for the proofs of the code.
pub mod AtTermLaws
pub mod TurnLaws

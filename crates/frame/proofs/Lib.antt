-- Laws for the code of every rule: a state and its year, a rule over its terms, a course under a verdict, and rules on bounds
-- told by their outcomes.
pub mod StateLaws
pub mod TermsAt
pub mod VerdictLaws
pub mod BoundsOnly
pub mod BoundsOver
pub mod Moves
pub mod ToldLaws

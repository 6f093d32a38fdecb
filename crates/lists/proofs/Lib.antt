-- Laws about the courses of a term and about the terms, for the proofs here.
pub mod CourseLaws
pub mod HeaviestLaws
pub mod TermLaws
pub mod OverLaws

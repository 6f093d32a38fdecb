-- Inner, not to be believed: how the code goes through the courses of a term: the same definitions for rules 3 and 10.
pub mod TermVerdict
pub mod Heaviest

-- Inner, not to be believed: what the code of these rules gives, function by function, in terms of the rules' own definitions.
pub mod AtTerm

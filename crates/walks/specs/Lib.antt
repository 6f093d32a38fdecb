-- Inner, not to be believed: what the code of the walks gives, function by function, in terms of the rules' own definitions.
pub mod Sparing
pub mod Walking

-- To be read: all that is promised, as statements; their proofs are in proofs/ and need not be read.
-- Read Demands first, with what its first demand is made of (Refusals to Boundary) and the words of the other two (Rounds to
-- OnePlacing); then Table, Unique and Answering; then the rest. Narrowings serves demands 1 and 3.
pub mod Demands
pub mod Refusals
pub mod Joining
pub mod Answers
pub mod Narrowings
pub mod ImbalancePlan
pub mod Listing
pub mod Codes
pub mod Boundary
pub mod Rounds
pub mod Sequence
pub mod OnePlacing
pub mod Table
pub mod Unique
pub mod Answering
pub mod SumsKept
pub mod ByHand
pub mod SpareRoom
pub mod SizesTried
pub mod Neighbours
pub mod Reasons
pub mod Promises

-- To be believed: the registrar's hours list (request A3), and how it is joined to a list of terms. Read these in this order. Computing
-- alone is inner.
pub mod Numbers
pub mod Entries
pub mod Joining
pub mod Computing
pub mod Examples

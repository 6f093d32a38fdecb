-- To be believed: the words that the rules and the imbalance are written in. What is proved of them is in proofs/.
pub mod Choice
pub mod Sum
pub mod Others
pub mod Largest
pub mod Pairs
pub mod Tests
pub mod Tab
pub mod Bits
pub mod Fold
pub mod Order
pub mod Walk
pub mod Packing
pub mod Neighbours

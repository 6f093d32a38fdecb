-- Inner, not to be believed: weights in an array, the two orders over them, and the heaviest.
pub mod Orders

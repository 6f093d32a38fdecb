-- Laws about the listing.
pub mod ListingLaws
pub mod LongestLaws

-- Laws of this crate that belong to no one function, in the order in which they rest on each other.
pub mod Sequences
pub mod Order
pub mod Search
pub mod WorstOfAll
pub mod Listing
pub mod Ranking
pub mod OneList
pub mod Proved

-- What the exported functions give.
pub mod Chains
pub mod Lists
pub mod Packed

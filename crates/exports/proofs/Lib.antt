-- The laws that the proofs cite.
pub mod Chains
pub mod Lists
pub mod Packed

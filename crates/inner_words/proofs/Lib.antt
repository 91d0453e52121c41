-- Laws of this crate that belong to no one function, in the order in which they rest on each other.
pub mod Interleaving
pub mod Remainders
pub mod ParityPlaces
pub mod Passes

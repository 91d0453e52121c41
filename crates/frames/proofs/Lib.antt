-- Laws of this crate that belong to no one function, in the order in which they rest on each other.
pub mod Numbers
pub mod OuterSymbols
pub mod Frames
pub mod Correction
pub mod Answers
pub mod Proved
pub mod DemandOne
pub mod DemandTwo
pub mod DemandThree
pub mod Demands

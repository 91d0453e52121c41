-- What the functions on the 64 inner words of a frame give.
pub mod BitSliced
pub mod InnerResidues
pub mod ParityMatrix
pub mod Passes
pub mod Candidates

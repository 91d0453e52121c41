-- The parity places of inner words: from their residues, and where they stand.
pub mod ParityMatrix
pub mod ParitySteps
pub mod ParityBits
pub mod Stored

-- The residues of inner words modulo the factors of the divisor.
pub mod InnerResidues
pub mod ResidueSteps
pub mod ResidueCodes

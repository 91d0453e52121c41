-- Proofs of what the code does and of what is claimed.
pub mod ByteCode
pub mod Rows
pub mod Overlays
pub mod ByteProducts
pub mod Lanes
pub mod Folds
pub mod PowerColumns
pub mod Remainders
pub mod RowSteps
pub mod Correcting
pub mod ColumnSyndromes
pub mod WordByWord
pub mod Locating
pub mod Proved

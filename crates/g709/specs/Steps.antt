-- What the functions below the entries give.
pub mod Registers
pub mod Folding
pub mod Restoring
pub mod RootColumns
pub mod Evaluating
pub mod ColumnSyndromes
pub mod Locating

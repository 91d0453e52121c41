-- What each loop and each way through a function keeps.
pub mod Symbols
pub mod Elimination
pub mod BerlekampMassey
pub mod Search
pub mod RootsFound
pub mod Errors
pub mod Flips
pub mod PowerTables
pub mod TableRoots

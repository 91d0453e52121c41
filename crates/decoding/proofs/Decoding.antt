-- The decoder: a polynomial that annihilates the syndromes, its roots, the values of the errors there; that up to eight errors are found.
pub mod Elimination
pub mod RootPlaces
pub mod Search
pub mod LinearRoot
pub mod PowerTables
pub mod TableSums
pub mod Values
pub mod Changes
pub mod Completeness
pub mod Uniqueness
pub mod Flips

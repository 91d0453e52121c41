-- The laws of binary fields and of their tables, in the order in which they rest on each other.
pub mod Xor
pub mod Doubling
pub mod Times
pub mod Lists
pub mod Onto
pub mod Walk
pub mod Cycle
pub mod Powers
pub mod Laws
pub mod Instances
pub mod Pieces
pub mod TableTests
pub mod Ways
pub mod ByTables
pub mod Products
pub mod Places

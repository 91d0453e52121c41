-- What functions over the two tables of a field, and functions that write buffers, give.
pub mod ByTables
pub mod Products
pub mod Buffers

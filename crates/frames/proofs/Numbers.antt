-- Numbers that bits and parts make: slices of lists, windows on bytes and symbols, groups that are written at once, parts that are stored one after the other.
pub mod Slices
pub mod Parts
pub mod Windows
pub mod Groups

-- What the functions below the entries give.
pub mod Received
pub mod Symbols
pub mod Passes

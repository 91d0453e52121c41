-- What the functions below the entries give.
pub mod Division
pub mod SixSymbols
pub mod Residues
pub mod InnerDecoding

-- What the decoder gives, over a field that is given as its two tables; and what its steps give.
pub mod ByTables
pub mod Decoder
pub mod Annihilator
pub mod RootSearch
pub mod PowerTables
pub mod ErrorValues

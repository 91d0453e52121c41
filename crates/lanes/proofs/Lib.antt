-- Laws of this crate that belong to no one function.
pub mod Sliced
pub mod Lanewise
pub mod CarrySave

-- What each loop and each way through a function keeps.
pub mod Loops
pub mod Digits
pub mod Joining
pub mod Shifting
pub mod Products
pub mod FourPlaces
pub mod Inner
pub mod Refusals
pub mod Entries
pub mod Corrections
pub mod InnerCorrection

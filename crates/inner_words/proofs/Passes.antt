-- The inner pass: wrong words found, and corrected in three ways.
pub mod WrongWords
pub mod InnerPass
pub mod Counts
pub mod FlippedPlaces
pub mod TooMany
pub mod TakenCandidates
pub mod WordErrors
pub mod SingleErrors

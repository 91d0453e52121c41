-- Logging: counters ("tally"), then the worst list, and what is proved of them.
pub mod Counting
pub mod WorstList
pub mod Laws

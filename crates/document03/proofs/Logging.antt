-- Document 03 on counters ("tally") and worst list: its definitions, and that the entries do what it says.
pub mod Says
pub mod WorstListAgrees
pub mod SaysHold

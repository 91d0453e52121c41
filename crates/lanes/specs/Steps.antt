-- Elements and counts for 64 inner words at once, bit-sliced.
pub mod Sliced
pub mod Counters

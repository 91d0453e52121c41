-- The 64 inner words of a frame in its bits and bytes, and as numbers.
pub mod InterleavedBits
pub mod BitSliced
pub mod EightBytes
pub mod LentBlock

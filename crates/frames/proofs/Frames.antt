-- Frames: their bits, the zero frame, how far they are apart, and document 01's examples.
pub mod FrameBits
pub mod ZeroFrame
pub mod FarApart
pub mod ExamplesHold

-- What the decoder finds for a word of each code is the nearest code word.
pub mod ReedSolomon
pub mod InnerSyndromes
pub mod Inner

-- Single words: bits, Reed-Solomon codes, the outer code, the inner code, the 64 inner words of a frame, what the entries answer, and what is proved of the codes.
pub mod Bits
pub mod ReedSolomon
pub mod OuterCode
pub mod InnerCode
pub mod Nearest
pub mod InnerWords
pub mod Corrections
pub mod InnerCorrections
pub mod Answers
pub mod Codes
-- need not be believed
pub mod Steps

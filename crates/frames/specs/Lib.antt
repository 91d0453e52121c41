-- Frames: the definitions in document 01's order, correction, what the entries answer, the examples, and what is proved: `Demands` lists it all.
pub mod Frames
pub mod Correction
pub mod Answers
pub mod Examples
pub mod FrameLaws
pub mod Demands
-- need not be believed
pub mod Steps

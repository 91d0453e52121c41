-- Document 03, in its order: fields, words, frames with correction, logging. `demands` of Frames/DemandsHold.antt is its record of all that is proved.
pub mod Counts
pub mod Fields
pub mod Words
pub mod Frames
pub mod Logging

-- The outer symbols: the words in them, written, received and tested; and the code words that they may become.
pub mod Words
pub mod Writing
pub mod Received
pub mod Tested
pub mod Permitted

-- RS(255,239) frames and rows of G.709: rows and their words, what the entries answer, and what is proved of them.
pub mod Rows
pub mod Answers
pub mod Laws
-- need not be believed
pub mod Steps

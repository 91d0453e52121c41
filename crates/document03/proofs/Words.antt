-- Document 03 on words: its definitions, that they agree with ours, and its statements.
pub mod Statements
pub mod Says
pub mod WordsAgree
pub mod OuterAgrees
pub mod BitRegister
pub mod InnerAgrees
pub mod BytesAgree
pub mod StatementsHold
pub mod SaysHold

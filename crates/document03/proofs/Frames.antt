-- Document 03 on frames and their correction: its definitions, that they agree with ours, and its statements.
pub mod Statements
pub mod Menders
pub mod Says
pub mod ListsAgree
pub mod OuterWordsAgree
pub mod SentBitsAgree
pub mod ParityBitsAgree
pub mod PayloadsAgree
pub mod FramesAgree
pub mod BlocksAgree
pub mod PassesAgree
pub mod ReportsAgree
pub mod LostSymbolsAgree
pub mod StatementsHold
pub mod DemandsHold
pub mod SaysHold

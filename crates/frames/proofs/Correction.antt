-- The two passes of the corrector, what they restore, and the report.
pub mod OuterPass
pub mod RestoredWords
pub mod ReportCounts

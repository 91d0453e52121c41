-- What the entries answer, way by way.
pub mod FrameAnswers
pub mod CorrectionAnswers

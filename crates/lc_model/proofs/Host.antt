-- Streams, worlds and whole runs.
pub mod Streams
pub mod UnheardLaws
pub mod SameCore
pub mod SameCoreSteps
pub mod SameCoreInputs
pub mod AsideLaws
pub mod TwoReadings
pub mod CorrespondenceLaws
pub mod SentOfTwo
pub mod RewordedTexts
pub mod StreamsGoOn
pub mod WholeRuns
pub mod RunsKept
pub mod RunsGoOn

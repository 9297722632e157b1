-- What a changed rule text does that the old one does not. This project's own.
pub mod Known
pub mod Situations
pub mod Forms
pub mod ConditionChanges
pub mod RuleChanges
pub mod Runs
pub mod RunsWritten
pub mod Sequences

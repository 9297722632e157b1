-- The Limit Checker over counts, over whole lists, and over two readings.
pub mod WatchLaws
pub mod ResultLaws
pub mod PastLaws
pub mod EffortLaws
pub mod StepLaws
pub mod Slots
pub mod Reordered
pub mod LimitCheckerOfTwo
pub mod LaggingLaws
pub mod LiftedLaws

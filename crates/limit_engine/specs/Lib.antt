-- Used by the engine's contracts, for the crates above: the effects of its calls, the reactions to a sample, the
-- refusals, and the capacities of its lists.
pub mod Reactions
pub mod Engine
pub mod States
pub mod Capacities
-- Used only by its own functions and invariants.
pub mod Ids
pub mod Bytes
pub mod Ranges
pub mod Grouped
pub mod Chained
pub mod Sampling
pub mod Running
pub mod Shared
pub mod Entry
pub mod Layout
pub mod Tables
pub mod Steps
pub mod Plan

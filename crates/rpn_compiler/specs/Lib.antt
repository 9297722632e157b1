-- The definitions that this crate's contracts use.
pub mod Fault
pub mod Naming
pub mod Read
pub mod TextParts
pub mod Lowered
pub mod Numbered
pub mod Limits
pub mod Pair

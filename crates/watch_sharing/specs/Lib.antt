-- The definitions that this crate's contracts use.
pub mod Fault
pub mod Numbering

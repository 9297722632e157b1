-- The definitions that this crate's contracts use.
pub mod Fault
pub mod Faults
pub mod Index
pub mod Number

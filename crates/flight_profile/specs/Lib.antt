-- The definitions that this crate's contracts use.
pub mod Stock
pub mod Members
pub mod Checkers
pub mod Force

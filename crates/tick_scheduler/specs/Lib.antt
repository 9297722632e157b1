-- The definitions that this crate's contracts use.
pub mod Turn

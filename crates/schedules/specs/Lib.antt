-- The definitions that this crate's contracts use.
pub mod Error
pub mod Entry
pub mod Word
pub mod Line

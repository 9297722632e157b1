-- What this crate proves of pieces and their layout.
pub mod Fronts
pub mod Reading
pub mod Longest
pub mod Texts
pub mod Unique
pub mod Twice
pub mod Moved
pub mod Rules

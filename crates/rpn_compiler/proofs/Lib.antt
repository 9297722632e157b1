-- What the compiler proves of rules and texts.
pub mod Numbered
pub mod Judging
pub mod Refused
pub mod Naming
pub mod Compiled
pub mod EntryWords

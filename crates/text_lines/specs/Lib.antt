-- What the contracts of lines, words and numbers cite.
pub mod Lines
pub mod Number

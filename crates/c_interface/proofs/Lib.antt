-- Lemmas of the library for C.
pub mod Files
pub mod Memory
pub mod NotRun
pub mod Sentences
pub mod Parted
pub mod Values
pub mod Silent
pub mod Boxes

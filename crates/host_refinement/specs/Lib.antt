pub mod Keeping
pub mod Statements
pub mod Calls
pub mod Writes
pub mod Invariants
pub mod Commands
pub mod Parts

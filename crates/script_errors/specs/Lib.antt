-- Named by the contracts of messages about lines.
pub mod Line
pub mod Telling

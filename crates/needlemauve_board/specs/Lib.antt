-- What the contract of the library for C on board cites.
pub mod Verdict

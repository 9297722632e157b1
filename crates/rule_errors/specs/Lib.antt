-- What the contracts of messages cite.
pub mod Places
pub mod Telling

-- What the contracts of scenarios cite.
pub mod Error
pub mod Number
pub mod Words
pub mod Named
pub mod Fields
pub mod Declarations
pub mod Rules
pub mod Said
pub mod Orders
pub mod Ramp
pub mod Line
pub mod Plain
pub mod HostReads
pub mod CommandWords

-- What the contracts of scripts cite.
pub mod Kind
pub mod Number
pub mod Error
pub mod Fields
pub mod Script
pub mod ByLines
pub mod Front
pub mod Whole
pub mod Telemetry
pub mod Listing

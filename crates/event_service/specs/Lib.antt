pub mod Error
pub mod Types
pub mod Filters
pub mod Change
pub mod Service
pub mod Packet
pub mod Text

pub mod Bits
pub mod Slots
pub mod Places
pub mod Heard
mod Once
pub mod Calls
pub mod Delivered
pub mod Counted
pub mod Fresh
pub mod Ready
pub mod Emptied
pub mod Published
pub mod Publishing
pub mod Hearers

mod Mapped
pub mod Calls
pub mod Stopping

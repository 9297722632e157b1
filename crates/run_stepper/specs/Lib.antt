pub mod Events
pub mod Stepping
pub mod Trace
pub mod Steps
pub mod Places
pub mod Watching

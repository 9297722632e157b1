pub mod Cause
pub mod Status

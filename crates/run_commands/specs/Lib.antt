pub mod Cause
pub mod Times
pub mod Worst

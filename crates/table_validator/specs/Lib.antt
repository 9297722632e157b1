pub mod Fault
pub mod Scan
pub mod Sound

pub mod Clock
pub mod Samples
pub mod Counts
pub mod Lanes
pub mod Repeats
pub mod Packets
pub mod Force
pub mod Account

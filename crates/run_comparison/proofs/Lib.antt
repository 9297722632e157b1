pub mod Packets
pub mod Lists
pub mod Asking
pub mod Finding
pub mod Runs
pub mod Same

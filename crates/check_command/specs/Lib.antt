pub mod Checked
pub mod Refused

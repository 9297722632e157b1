pub mod Members
pub mod Plain

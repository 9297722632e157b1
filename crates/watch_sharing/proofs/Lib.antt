-- What this crate proves of watchpoints.
pub mod SameTerm
pub mod Numbers
pub mod Distinct

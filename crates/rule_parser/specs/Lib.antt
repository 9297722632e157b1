-- The definitions that this crate's contracts use. The public contracts use only `Fault`, `What`, `Syntax` and `Laws`, over the
-- grammar in `lc_model`; the others are for the functions inside.
pub mod What
pub mod Fault
pub mod Syntax
pub mod Front
pub mod Left
pub mod Stack
pub mod Condition
pub mod Head
pub mod File
pub mod Laws

mod Named
pub mod Engines

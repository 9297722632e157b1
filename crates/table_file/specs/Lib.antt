pub mod Error
pub mod File
pub mod Layout
pub mod Parts
pub mod Laws

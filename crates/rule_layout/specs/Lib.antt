-- What the contracts of the layout cite.
pub mod Parts
pub mod Shapes
pub mod Pieces
pub mod Gaps
pub mod Layout
pub mod Formatting
pub mod Laws

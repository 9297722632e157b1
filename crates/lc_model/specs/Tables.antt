-- The tables of a rule text: equations, images, files, their faults and their meaning.
pub mod Equation
pub mod Compiling
pub mod Lowering
pub mod Entry
pub mod Image
pub mod File
pub mod Half
pub mod Spelled
pub mod Slot
pub mod Interpretation
pub mod HalvesAndBytes
pub mod Edition
pub mod InForce

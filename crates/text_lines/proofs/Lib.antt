pub mod Parts
pub mod Splits
pub mod Digits

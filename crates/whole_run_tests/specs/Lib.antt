-- What the proved runs of these tests cite.
pub mod Endings
pub mod WithStock
pub mod LowVolts
pub mod TwoTexts

pub mod Words
pub mod Told

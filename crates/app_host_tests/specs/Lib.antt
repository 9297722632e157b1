pub mod Naming
pub mod Beside

pub mod Errors
pub mod Meaning
pub mod Order
pub mod Met
pub mod Asked
pub mod Comparing
pub mod Failing

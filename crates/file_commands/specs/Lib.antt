pub mod Asked
pub mod Taken
pub mod Ends
pub mod Import
pub mod Listed

pub mod Opening
pub mod Appending
pub mod Headers
pub mod Blank
pub mod Words
pub mod Versions
pub mod WatchpointsAgain
pub mod ActionpointsAgain
mod HeaderFields

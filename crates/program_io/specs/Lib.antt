-- What the contracts on files and words cite.
pub mod Why
pub mod Error
pub mod Arguments
pub mod FileCall
pub mod Lasting
pub mod Replaced
pub mod Stops

-- Which warnings there are, where, and which of them are kept quiet. This project's own.
pub mod Names
pub mod Items
pub mod Judged
pub mod Groups
pub mod Quiet
pub mod Words
pub mod Warned

-- What the contracts of places and messages cite.
pub mod Line
pub mod Character
pub mod Window
pub mod Excerpt
pub mod Message
pub mod Object

-- What the contracts of places and changes cite.
pub mod Changes
pub mod Laws
pub mod Place

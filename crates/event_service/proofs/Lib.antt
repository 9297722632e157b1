pub mod Behind
pub mod FilterLists
pub mod Joined
pub mod Stays
pub mod TypesAmong

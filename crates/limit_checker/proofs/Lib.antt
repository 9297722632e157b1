mod RuleTexts
mod Answering
mod Commanding
mod Sizes
mod Requesting
mod SampleTaken
mod Leaving
mod Stands
pub mod Judging
pub mod TwoTables
mod SameIds
pub mod Adopting
pub mod DefaultTables
pub mod TablesBegun
pub mod Renewing
pub mod Rearranged
pub mod Attending
pub mod SeatTaken
pub mod Dispatching

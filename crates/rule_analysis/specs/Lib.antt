-- What is to be known of a condition before any packet comes. This project's own.
pub mod Judgement
pub mod Quiet
pub mod Numbers
pub mod Fields
pub mod Classes
pub mod Open
pub mod Search
pub mod Steps
pub mod Came
pub mod Findings
pub mod Bits
pub mod Laid
pub mod Called
pub mod Reach
pub mod Spare

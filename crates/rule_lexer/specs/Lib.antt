-- The definitions that the lexer's contracts use.
pub mod Token
pub mod Fault
pub mod Fitting
pub mod Digits
pub mod Front
pub mod Step
pub mod Laws
pub mod Reason
pub mod WordGroups

-- Tokens, grammar, meaning and readings of rule texts: each text has one answer.
pub mod Tokens
pub mod OneSplit
pub mod OneCondition
pub mod OneFile
pub mod OneReading
pub mod OneClass
pub mod Continued
pub mod OneParse
pub mod OneBadToken
pub mod OneRefusal
pub mod HasMeaning
pub mod HasTokens
pub mod HasAnswers
pub mod ItemsInRange

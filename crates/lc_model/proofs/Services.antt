-- The bus, the events and the tables by seats and by names.
pub mod SenderNames
pub mod SenderLaws
pub mod SenderLogs
pub mod BusLaws
pub mod Subscriptions
pub mod NamedLists
pub mod TableServiceLaws
pub mod TableNames

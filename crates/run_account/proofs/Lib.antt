pub mod Records
pub mod Numbers
pub mod Rows
pub mod Repeating
pub mod Accounts
pub mod Taking
pub mod Scheduling
pub mod ResultLists

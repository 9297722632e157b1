-- What is listed of rules before any packet comes. This project's own.
pub mod Compared
pub mod Requests
pub mod Said

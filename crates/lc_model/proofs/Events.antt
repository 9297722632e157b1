-- Logs, what is sent, and the bytes of requests.
pub mod RequestBytes
pub mod LogLaws
pub mod SendLaws

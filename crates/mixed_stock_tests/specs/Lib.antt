-- What the callers here state.
pub mod Mixed

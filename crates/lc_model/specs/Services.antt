-- The services by seats: what each of their calls returns and changes.
pub mod Bus
pub mod Events
pub mod EventCalls
pub mod Tables
pub mod Seen
pub mod Interface
pub mod Settled

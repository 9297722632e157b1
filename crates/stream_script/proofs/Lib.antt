pub mod Turns
pub mod Stands
pub mod Commands
pub mod Streams
pub mod Triples
pub mod Again
pub mod Lines
pub mod WholeStreams
pub mod InFront
mod Fronts
mod Telemetry

pub mod Names
pub mod Deliveries
pub mod Steps
pub mod HostRecords
pub mod TableRecords
pub mod Places
pub mod Seats
pub mod Orders
pub mod OrderRecords
pub mod Queues
pub mod Copies
pub mod InStep
pub mod Keeps
pub mod OwnRequests
pub mod PacketRecords
pub mod Ticks
pub mod Whole
pub mod Records
pub mod Runs
pub mod Stays
pub mod Laws
mod PartsKept
pub mod Telemetry
pub mod FineFiles
pub mod Brought
pub mod Missions
pub mod Sizes
pub mod Bounds
pub mod Schedules
pub mod GoesOn
pub mod SeatsGo
mod StationsWrite
mod FilesStay
mod NamesStay
mod Examples
pub mod Commands

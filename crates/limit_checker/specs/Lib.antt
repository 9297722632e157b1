pub mod Application
pub mod Commands
pub mod Sending
pub mod Standings
pub mod Starting
pub mod Housekeeping
pub mod Adoption
pub mod Capacities

pub mod Error
pub mod Images
pub mod Store
pub mod Places
pub mod Capacities

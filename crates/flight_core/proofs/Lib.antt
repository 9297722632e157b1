pub mod Fronts
pub mod Slices
pub mod Cutting
pub mod Known
mod TextsCompiled
mod RecordsBrought
mod NextHandled
mod HeldOutput
mod Courses
mod Endings
mod Exits
mod Reasons
mod Retries
mod Outset
mod Failures
mod Fitting
mod Asides
mod Worlds

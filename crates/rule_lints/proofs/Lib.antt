-- Lemmas on warnings.
mod Parting
mod Listed
mod Nothing
mod Naming
mod Meeting
mod Grouping
mod Twins

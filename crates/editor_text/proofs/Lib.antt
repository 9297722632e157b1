-- Lemmas on places one after the other, and on changes made one after the other.
mod Codes
mod Merged
mod Places

-- Lemmas on lines and their messages.
mod Places
mod Faults

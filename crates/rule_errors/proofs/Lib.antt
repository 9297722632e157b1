-- Lemmas on what messages tell.
mod Different
mod Reasons
mod Begins
mod Inside

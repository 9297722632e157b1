-- Lemmas on places, on characters that are written one after the other, and on messages as JSON.
mod Decoding
mod Pushed
mod Starts
mod Steps
mod Whole

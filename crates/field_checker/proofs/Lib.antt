-- Lemmas of the checker's proofs.
mod Accepted
mod After
mod Keys
mod Indexing
mod Meant
mod Named
mod Placed
mod Verdicts

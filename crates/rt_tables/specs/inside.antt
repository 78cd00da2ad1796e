-- Definitions that no public clause uses: those of private contracts, of invariants and of proofs.
pub mod Tables
pub mod Merging
pub mod Answers
pub mod Cursors

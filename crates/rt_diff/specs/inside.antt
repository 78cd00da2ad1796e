-- Definitions that no public clause uses: those of private contracts, of invariants and of proofs.
pub mod Pieces
pub mod Rest
pub mod Parts

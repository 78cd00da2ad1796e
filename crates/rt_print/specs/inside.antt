-- Definitions that no public clause uses, for private contracts, invariants and proofs.
pub mod ChangeMaps
pub mod Parts

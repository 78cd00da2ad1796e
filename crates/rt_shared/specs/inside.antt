-- Definitions that no public clause uses, for private contracts, invariants and proofs.
pub mod LentLaws
pub mod PassModel
pub mod ServedBatch
pub mod VisitEntries

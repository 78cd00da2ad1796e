-- Definitions that no public clause uses: those of private contracts, of invariants and of proofs.
pub mod AttachedFib
pub mod Parts
pub mod Places
pub mod Routers
pub mod Owned
pub mod Tables

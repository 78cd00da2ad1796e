-- Definitions that no public clause uses: those of private contracts, of invariants and of proofs.
pub mod OneOrMany
pub mod TableState
pub mod Maps
pub mod Offers
pub mod OneProof
pub mod Purges
pub mod Changes
pub mod HopMaps

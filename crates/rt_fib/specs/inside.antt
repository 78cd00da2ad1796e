-- What no public clause speaks of: the words of private contracts, of invariants and of proofs.
pub mod Entries
pub mod Slab
pub mod Shown
pub mod Changes

-- What no public clause speaks of: the words of private contracts, of invariants and of proofs.
pub mod Outputs
pub mod Pieces
pub mod Runs

-- Definitions that no public clause uses, for private contracts, invariants and proofs.
pub mod Fields
pub mod ReadAddresses
pub mod FeedRuns

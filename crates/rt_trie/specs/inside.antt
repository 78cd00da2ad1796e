-- Definitions that no public clause uses: those of private contracts, of invariants and of proofs.
pub mod References
pub mod Places
pub mod Blocks
pub mod Changes
pub mod Descent
pub mod Lends
pub mod Lawful
pub mod Links
pub mod OneProof
pub mod Retained
pub mod Tree
pub mod TreeCode
pub mod Trie
pub mod WalkStack

-- The lemmas of this crate that proofs of the crates above may cite, besides the contracts of its functions. No other
-- file of this directory is part of its interface.

-- which of its types may be sent to another thread
pub use Rattle.rt_trie.proofs.Crossing.{trie_send}
-- the value at each prefix after an insertion and after a removal, which both keep the pairs in order
pub use Rattle.rt_trie.proofs.MapLaws.{get-put, get-erase, ordered-put, ordered-erase}
-- a pair is in a map's list if and only if its value is stored at its prefix; a map has only one list
pub use Rattle.rt_trie.proofs.StoredPairs.{pairs-found, one-list}
-- if two prefixes cover the same address, the later one is the longer
pub use Rattle.rt_trie.proofs.LongestMatches.{later_is_longer}

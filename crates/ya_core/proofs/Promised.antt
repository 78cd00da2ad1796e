-- The promises of this crate to a running lock, besides the contracts of its functions: lemmas that the proofs of
-- another crate may cite. No other file of this folder is part of the promise.

-- different words of a tree have different numbers below the number of words; a tree has at most MAX_PLACES places
pub use Rattle.ya_core.proofs.Numbers.{same_number, number_within, few_places}
-- the test of a word is true exactly for the tree's words
pub use Rattle.ya_core.proofs.NamedWords.{is_word_true, word_is}
-- the due access of a walker that requests a load or a store, and its word is one of the tree
pub use Rattle.ya_core.proofs.DueAccess.{load_due, store_due}
pub use Rattle.ya_core.proofs.Properness.{within_access}
-- a walk that is passed a value comes nearer, unless it waits, and its count rises by no more than its bound
pub use Rattle.ya_core.proofs.Counting.{told_nearer, told_counted}
-- the invariant holds at the start, each step keeps it, a load finds a value that its word can hold, a process that is
-- inside is at one point, and two places that are inside are equal
pub use Rattle.ya_core.proofs.Invariant.{opens, keeps, finds, is_inside_is, excludes}
-- if some place takes part, some place that takes part goes on
pub use Rattle.ya_core.proofs.Deadlock.{someone_goes_on}

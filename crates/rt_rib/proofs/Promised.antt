-- The lemmas of this crate that proofs of the crates above may cite, besides the contracts of its functions. No other
-- file of this directory is part of its interface.

-- each kind of command
pub use Rattle.rt_rib.proofs.CommandCases.{each_command}
-- the answers to one address more; answers that depend on no earlier ones; one of these, read in a longer list
pub use Rattle.rt_rib.proofs.ChunkAnswers.{answered_more, answered-map, answer_read}
-- which of its types may be sent to another thread
pub use Rattle.rt_rib.proofs.Crossing.{table_send, book_send}
-- `==` of its types decides whether they are equal
pub use Rattle.rt_rib.proofs.Equality.{decides_hop, decides_route}
-- the table that a journal leaves after one more entry
pub use Rattle.rt_rib.proofs.Journals.{table_of_journal-push}
-- a command leaves no route twice
pub use Rattle.rt_rib.proofs.Journals.{IsTable-after}
-- lawful journals
pub use Rattle.rt_rib.proofs.Journals.{IsLawfulJournal-nil, IsLawfulJournal-push}
-- each two of a list's elements are related: the first and each other one, and each two of the others
pub use Rattle.rt_rib.proofs.Lists.{AllPairs-head, AllPairs-tail}
-- a purge leaves the same after a withdrawal of the feed; what a purge leaves; a purge in steps
pub use Rattle.rt_rib.proofs.PurgeSteps.{withdrawn_rest, purged_routes, purged_limit, serves_purge}
-- selecting routes at once, and by one filter after another
pub use Rattle.rt_rib.proofs.Selections.{selected_by_filters}

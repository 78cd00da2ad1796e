-- The promises of this crate to the crates above it, besides the contracts of its functions: lemmas that their proofs
-- may cite. No other file of this folder is part of the promise.

-- the types that a thread may be given
pub use Rattle.rt_shared.proofs.Crossing.{pass_send, rib_sync}
-- a feed's visits stay uncut while it is away, and as it adds one
pub use Rattle.rt_shared.proofs.UncutVisits.{uncut_since, uncut_visit, uncut_by_visit}
-- the passes of a table of two feeds, taken from the end of their list
pub use Rattle.rt_shared.proofs.TwoPasses.{both_popped}

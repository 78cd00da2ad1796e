-- The lemmas of this crate that proofs of the crates above may cite, besides the contracts of its functions. No other
-- file of this directory is part of its interface.

-- the maximum lengths of the texts of a next hop and a route
pub use Rattle.rt_print.proofs.LineParts.{hop_fits, route_fits}
-- the contents of a writer after several texts or one text for each element of a list, also after an error within one
pub use Rattle.rt_print.proofs.Writing.{breaks_off, stops_within, writes_after, appends_next, begins_all, stops_all, stops_in_one}
-- the contents of a writer when text was written to it through a buffer
pub use Rattle.rt_print.proofs.Writing.{stops, stops_held}
-- the text of a replay is not empty
pub use Rattle.rt_print.proofs.Replaying.{replay_text-some}
-- the lines of a difference aren't empty
pub use Rattle.rt_print.proofs.DifferenceLines.{difference-some}

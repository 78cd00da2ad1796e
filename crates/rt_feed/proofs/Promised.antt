-- The promises of this crate to the crates above it, besides the contracts of its functions: lemmas that their proofs
-- may cite. No other file of this folder is part of the promise.

-- a line takes at least one byte of its text
pub use Rattle.rt_feed.proofs.LinesYield.{length-cut}
-- the report's line for one more line, and the commands of more lines
pub use Rattle.rt_feed.proofs.LinesYield.{report_lines-push, commands_of-append}

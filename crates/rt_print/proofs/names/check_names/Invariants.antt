use Rattle.std.proofs.Common.{ℕ, ◌<◌, map}
use Rattle.rt_print.specs.FeedNames.{HasOwnName}
use Rattle.rt_print.proofs.names.check_names.Given as goal

-- the feeds so far have names of their own
abbrev pub invariant-loop-index : goal.invariant-loop-index
invariant-loop-index l = (at : ℕ) → at < l.index → HasOwnName (map (λ path. path.now) l.paths) at

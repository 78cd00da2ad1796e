use Rattle.std.proofs.Common.{length}
use Rattle.rt_feed.specs.inside.ReadAddresses.{AreRead}
use Rattle.rt_feed.proofs.addresses.read_addresses.Given as goal

-- the lines so far have been read
abbrev pub invariant-loop-line : goal.invariant-loop-line
invariant-loop-line l = AreRead l.fn.named l.text l.rest l.number l.keep_invalid l.read

abbrev pub decreases-loop-line : goal.decreases-loop-line
decreases-loop-line l = length l.rest

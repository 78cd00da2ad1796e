use Rattle.std.proofs.Common.{◌≡◌, ◌++◌, length}
use Rattle.std.specs.Prelude.{option_to_list}
use Rattle.rt_rib.specs.inside.Changes.{purge_changes}
use Rattle.rt_rib.proofs.changes.PurgeChangesIterator.next.Given as goal

-- what was found and what is still to be visited are the remaining changes
abbrev pub invariant-loop-found : goal.invariant-loop-found
invariant-loop-found g l = option_to_list l.found ++ purge_changes l.self-inside.feed l.self-inside.walk ≡ l.fn.self

abbrev pub decreases-loop-found : goal.decreases-loop-found
decreases-loop-found g l = length l.self-inside.walk

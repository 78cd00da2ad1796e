use Rattle.std.proofs.Common.{◌≡◌, ◌+◌}
use Rattle.rt_diff.specs.inside.Parts.{IsListing, addresses_from}
use Rattle.rt_diff.proofs.listing.list_in_turn.Given as goal

-- the ranges so far are listed
abbrev pub invariant-loop-next : goal.invariant-loop-next
invariant-loop-next l = record {
  same : l.comparison ≡ l.fn.tables;
  far : IsListing l.fn.tables l.fn.first.0 (l.fn.last.0 + 1) l.next l.list.items;
}

abbrev pub decreases-loop-next : goal.decreases-loop-next
decreases-loop-next l = addresses_from l.next

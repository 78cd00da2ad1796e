use Rattle.std.proofs.Common.{◌≡◌, ◌-◌, ◌≤◌, true, length}
use Rattle.std.specs.List.{AllWithin}
use Rattle.rt_rib.specs.Maps.{outranks}
use Rattle.rt_rib.proofs.offers.insertion_index.Given as goal

abbrev pub invariant-loop-index : goal.invariant-loop-index
invariant-loop-index l = record { within : l.index ≤ length l.offers; before : AllWithin (λ o. outranks o l.offer ≡ true) l.offers 0 l.index }

abbrev pub decreases-loop-index : goal.decreases-loop-index
decreases-loop-index l = length l.offers - l.index

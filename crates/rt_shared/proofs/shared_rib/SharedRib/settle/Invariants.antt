use Rattle.std.proofs.Common.{◌≡◌, ◌++◌, List, All, vec_len}
use Rattle.rt_shared.specs.JournalVisits.{Since}
use Rattle.rt_shared.specs.SharedTable.{HeldPass}
use Rattle.rt_shared.proofs.shared_rib.SharedRib.settle.Given as goal

abbrev pub invariant-loop-pass : goal.invariant-loop-pass
invariant-loop-pass g l = record {
  guard : l.guard ≡ l.initial.guard;
  confirmed : List HeldPass;
  all : l.fn.passes.items ≡ l.passes.items ++ confirmed;
  since : All (λ p. Since p.feed p.seen l.guard.found.book.journal) confirmed;
}

abbrev pub decreases-loop-pass : goal.decreases-loop-pass
decreases-loop-pass g l = vec_len l.passes

use Rattle.std.proofs.Common.{◌≡◌, ◌<◌, ◌≤◌, ◌==◌, ℕ, length, get_or, if◌then◌else◌}
use Rattle.rt_run.specs.Shares.{share_with}
use Rattle.rt_run.proofs.input.exchange.Given as goal

-- the earlier places were exchanged, and the others are unchanged
abbrev pub invariant-loop-index : goal.invariant-loop-index
invariant-loop-index g l = record {
  as_many : (length l.one.items ≡ length l.initial.one.items) × (length l.other.items ≡ length l.initial.other.items);
  one_done : (k : ℕ) (none : _) → k < l.index → get_or l.one.items k none ≡ (if share_with l.dealt k == l.share then get_or l.initial.other.items k none else get_or l.initial.one.items k none);
  other_done : (k : ℕ) (none : _) → k < l.index → get_or l.other.items k none ≡ (if share_with l.dealt k == l.share then get_or l.initial.one.items k none else get_or l.initial.other.items k none);
  one_rest : (k : ℕ) (none : _) → l.index ≤ k → get_or l.one.items k none ≡ get_or l.initial.one.items k none;
  other_rest : (k : ℕ) (none : _) → l.index ≤ k → get_or l.other.items k none ≡ get_or l.initial.other.items k none;
}

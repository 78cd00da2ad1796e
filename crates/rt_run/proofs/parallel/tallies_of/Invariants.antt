use Rattle.std.proofs.Common.{◌≡◌, ◌<◌, ◌≤◌, ℕ, [], map, get_or, vec_len, vec_capacity}
use Rattle.rt_run.specs.declared.tallies.RejectedInput.{RejectedInput}
use Rattle.rt_run.specs.Shares.{share_with}
use Rattle.rt_run.proofs.parallel.tallies_of.Given as goal

-- the tallies so far are those of the texts' shares, and there is capacity for the others
abbrev pub invariant-loop-index : goal.invariant-loop-index
invariant-loop-index l = record {
  each : (k : ℕ) (none : RejectedInput) → k < l.index → get_or l.all.items k none ≡ get_or (get_or (map (λ tallies. tallies.items) l.told) (share_with l.dealt k) []) k none;
  counted : vec_len l.all ≡ l.index;
  room : l.count ≤ vec_capacity l.all;
}

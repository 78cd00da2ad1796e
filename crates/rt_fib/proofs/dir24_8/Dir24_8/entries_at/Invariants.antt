use Rattle.std.proofs.Common.{◌≡◌, ℕ, ◌<◌, ◌≤◌, get_or, length}
use Rattle.rt_fib.specs.inside.Entries.{at, entry_at}
use Rattle.rt_fib.proofs.dir24_8.Dir24_8.entries_at.Given as goal

-- the entries so far
abbrev pub invariant-entries : goal.invariant-entries
invariant-entries g l = record {
  size : 16 ≤ length l.entries;
  each : (i : ℕ) → i < l.k → get_or l.entries i 0 ≡ entry_at l.self.tbl24.items (get_or l.addresses i (at 0));
}

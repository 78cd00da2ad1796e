use Rattle.std.proofs.Common.{◌≡◌, length, map, take}
use Rattle.rt_fib.specs.inside.Shown.{shown_entry}
use Rattle.rt_fib.proofs.views.show_entries.Given as goal

-- the entries so far
abbrev pub invariant-entries : goal.invariant-entries
invariant-entries l = record {
  size : length l.shown ≡ length l.entries;
  each : take l.i l.shown ≡ map (shown_entry l.numbers) (take l.i l.entries);
}

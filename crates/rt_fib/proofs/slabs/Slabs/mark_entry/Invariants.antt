use Rattle.std.proofs.Common.{ℕ, ◌+◌, ◌<◌, Option, get_or}
use Rattle.rt_rib.specs.declared.routes.Route.{Route}
use Rattle.rt_fib.specs.declared.slabs.Group.{Group}
use Rattle.rt_fib.specs.inside.Slab.{Has}
use Rattle.rt_fib.specs.inside.Entries.{KeepsBoth, HasRoute}
use Rattle.rt_fib.proofs.slabs.Slabs.mark_entry.Given as goal

-- the group is marked, and so are its numbers up to the loop's place
abbrev pub invariant-numbers : goal.invariant-numbers
invariant-numbers g l = record {
  keeps : KeepsBoth l.epoch.number l.fn.self l.self;
  group : (value : Group) → Has l.fn.self.groups.places l.epoch.number l.place value → Has l.self.groups.places (l.epoch.number + 1) l.place value;
  on : (i : ℕ) (answer : Option Route) → i < l.k → HasRoute l.fn.self l.epoch.number (get_or l.numbers i 0) answer
      → HasRoute l.self (l.epoch.number + 1) (get_or l.numbers i 0) answer;
}

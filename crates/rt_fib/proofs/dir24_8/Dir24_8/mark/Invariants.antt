use Rattle.std.proofs.Common.{◌≡◌, ◌-◌, ◌^◌}
use Rattle.rt_fib.specs.inside.Entries.{IsForwarding}
use Rattle.rt_fib.proofs.dir24_8.Dir24_8.mark.Given as goal

-- all is right so far
abbrev pub invariant-mark : goal.invariant-mark
invariant-mark g l = record {
  right : IsForwarding l.self;
  epoch : l.self.epoch.number ≡ l.fn.self.epoch.number;
  table : l.self.table.value ≡ l.fn.self.table.value;
}

abbrev pub decreases-mark : goal.decreases-mark
decreases-mark g l = 2 ^ 24 - l.self.marked

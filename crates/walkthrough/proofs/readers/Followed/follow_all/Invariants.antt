use Rattle.std.proofs.Common.{◌≡◌}
use Rattle.walkthrough.proofs.readers.Followed.follow_all.Given as goal

abbrev pub invariant-commands : goal.invariant-commands
invariant-commands l = l.self.fib ≡ l.self.table.routes

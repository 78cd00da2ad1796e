use Rattle.rt_rib.specs.Book.{table_state}
use Rattle.walkthrough.proofs.fib.follow.Goals as goal

pub follow-requires-clause-once : goal.follow-requires-clause-once
follow-requires-clause-once c = rw c.requires.fib c.holds.ensures.once

pub follow-requires-clause-others : goal.follow-requires-clause-others
follow-requires-clause-others c =
    rw c.requires.fib
    (c.commands_preserve_other_routes.ensures (table_state c.args.table.now) (table_state c.apply.new.self) c.args.feed _ _ c.in_ok-apply.ensures.ok)

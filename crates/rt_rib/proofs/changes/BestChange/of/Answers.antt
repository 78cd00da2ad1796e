use Rattle.std.proofs.lemmas.Bool.{both_ways}
use Rattle.rt_rib.proofs.BestTo.{no_change, one_change}
use Rattle.rt_rib.proofs.changes.BestChange.of.Goals as goal

pub returns-then-is_same : goal.returns-then-is_same
returns-then-is_same c = λ limit feed cmd routes table is first last.
    no_change limit feed cmd routes table c.args.prefix is c.args.before c.args.after first last (c.is_same.ensures.0 c.if-is_same.true)

pub returns : goal.returns
returns c = λ limit feed cmd routes table is first last.
    one_change limit feed cmd routes table c.args.prefix is c.args.before c.args.after first last
    (λ same. both_ways c.is_same.result c.if-is_same.false (c.is_same.ensures.1 same))

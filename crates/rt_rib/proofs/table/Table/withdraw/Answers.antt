use Rattle.std.proofs.Common.{refl, sym, ap, arith}
use Rattle.rt_rib.specs.Maps.{routes_of}
use Rattle.rt_rib.proofs.TableChanges.{kept_counted, kept_serves, withdrawn_counted, withdrawn_one}
use Rattle.rt_rib.proofs.CommandCases.{unwithdrawn, withdrawn}
use Rattle.rt_rib.proofs.table.Table.withdraw.Goals as goal

pub invariant_of-self : goal.invariant_of-self
invariant_of-self g c =
    kept_counted c.self.inside.limit c.self.inside.counts c.self.inside.map.pairs c.take_out.new.self.pairs c.self.invariant
    (c.in_default.ensures.kept refl)

pub returns-in_default-clause-served : goal.returns-in_default-clause-served
returns-in_default-clause-served g c = rw (← c.self.view_is)
    (kept_serves c.self.inside.limit c.self.inside.map.pairs c.take_out.new.self.pairs _ _ _ (c.in_default.ensures.kept refl)
    (unwithdrawn c.self.inside.limit (routes_of c.self.inside.map.pairs) c.args.feed c.args.prefix (sym c.in_default.ensures.had)))

pub returns-in_default-clause-best : goal.returns-in_default-clause-best
returns-in_default-clause-best g c = rw (← c.self.view_is) (ap routes_of (c.in_default.ensures.kept refl))

pub overflow_sub-self : goal.overflow_sub-self
overflow_sub-self g c = c.requires.0

pub overflow_sub-self-2 : goal.overflow_sub-self-2
overflow_sub-self-2 g c =
    let one =
    withdrawn_one c.self.inside.limit c.self.inside.counts c.self.inside.map.pairs c.self.invariant c.self.told
    c.args.feed c.requires c.args.prefix (sym c.in-Some.ensures.had) c.take_out.new.self.pairs
    (c.in-Some.ensures.gone refl) in
    omega arith

pub invariant_of-self-2 : goal.invariant_of-self-2
invariant_of-self-2 g c =
    withdrawn_counted c.self.inside.limit c.self.inside.counts c.self.inside.map.pairs c.self.invariant c.self.told
    c.args.feed c.requires c.args.prefix (sym c.in-Some.ensures.had) c.take_out.new.self.pairs
    (c.in-Some.ensures.gone refl)

pub returns-clause-served : goal.returns-clause-served
returns-clause-served g c =
    rw (← c.self.view_is)
    (withdrawn c.self.inside.limit (routes_of c.self.inside.map.pairs) c.args.feed c.args.prefix (sym c.in-Some.ensures.had)
    (routes_of c.take_out.new.self.pairs) (c.in-Some.ensures.gone refl))

pub returns-clause-best : goal.returns-clause-best
returns-clause-best g c = rw (← c.self.view_is) c.in-Some.ensures.best

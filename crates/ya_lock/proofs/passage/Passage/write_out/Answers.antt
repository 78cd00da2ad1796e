use Rattle.std.proofs.Common.{sym, ap, ◌∙◌, subst}
use Rattle.ya_core.specs.WalkerModel.{Walk, IsWalk}
use Rattle.ya_lock.specs.inside.Lock.{OnWay, IsOnWay, has_looked_in_vain}
use Rattle.ya_lock.proofs.EntrySteps.{is_walk_of}
use Rattle.ya_lock.proofs.passage.Passage.write_out.Goals as goal

pub entering-self-inside-requires : goal.entering-self-inside-requires
entering-self-inside-requires g c =
    let s = c.self.inside in let i = c.self.invariant in let e = c.in-Entering in let remote = c.remote-remote in
    subst IsWalk (is_walk_of g.V.Kept.since g.V.Kept.done s.walker s.seen.value s.seat.me c.shape-shape.result s.place e.level
    c.requires.0 remote.result c.args.point e.field-1 (i.tree ∙ sym c.shape-shape.ensures) i.at (sym e.ensures.value)
    (ap (λ (p : OnWay g.row.V.Denot). p.walk.process) c.self.view_is ∙ c.requires.1) (sym remote.ensures.value) i.seat)
    c.process.ensures.proper

pub invariant_of-self : goal.invariant_of-self
invariant_of-self g c =
    let s = c.self.inside in let i = c.self.invariant in let e = c.in-Entering in let remote = c.remote-remote in
    let new = c.entering-self-inside in
    subst (λ (w : Walk). IsOnWay g.V.Kept.since g.V.Kept.done g.row.L s.lock.now s.seat.table_id s.place s.seen.value w s.seat.me)
    (is_walk_of g.V.Kept.since g.V.Kept.done s.walker s.seen.value s.seat.me c.shape-shape.result s.place e.level
    c.requires.0 remote.result c.args.point e.field-1 (i.tree ∙ sym c.shape-shape.ensures) i.at (sym e.ensures.value)
    (ap (λ (p : OnWay g.row.V.Denot). p.walk.process) c.self.view_is ∙ c.requires.1) (sym remote.ensures.value) i.seat
    ∙ sym new.ensures) i

pub returns-clause-same : goal.returns-clause-same
returns-clause-same g c =
    let s = c.self.inside in let i = c.self.invariant in let e = c.in-Entering in let remote = c.remote-remote in
    let new = c.entering-self-inside in
    let way : Walk → OnWay g.row.V.Denot =
    λ w. record {
      of = record { lock = s.lock.now; place = s.place; seen = s.seen.value };
      walk = w;
      vain = has_looked_in_vain s.seat.me.0;
    } in
    ap way (new.ensures
    ∙ sym (is_walk_of g.V.Kept.since g.V.Kept.done s.walker s.seen.value s.seat.me c.shape-shape.result s.place e.level
    c.requires.0 remote.result c.args.point e.field-1 (i.tree ∙ sym c.shape-shape.ensures) i.at (sym e.ensures.value)
    (ap (λ (p : OnWay g.row.V.Denot). p.walk.process) c.self.view_is ∙ c.requires.1) (sym remote.ensures.value) i.seat))
    ∙ c.self.view_is

pub returns-clause-at : goal.returns-clause-at
returns-clause-at g c = (c.in-Entering.level, ap (λ (w : Walk). w.process) c.entering-self-inside.ensures)

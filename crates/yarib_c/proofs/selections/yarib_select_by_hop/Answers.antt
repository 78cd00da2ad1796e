use Rattle.std.proofs.Common.{inl, inr, refl, subst}
use Rattle.yarib_c.specs.declared.held.Held.{Held}
use Rattle.yarib_c.specs.Selections.{SelectionStatus}
use Rattle.yarib_c.proofs.selections.yarib_select_by_hop.Goals.{then-hop-gt2, else-hop-gt2}
use Rattle.yarib_c.proofs.selections.yarib_select_by_hop.Goals as goal

pub returns-after-hop-gt2-clause-order : goal.returns-after-hop-gt2-clause-order
returns-after-hop-gt2-clause-order c = elim c.if-hop-gt2.branch [
  | then-hop-gt2 w ↦ rw (c.in-Some.ensures.taken, w.status-is) (inl (inr w.if-hop-gt2.true, refl))
  | else-hop-gt2 w ↦ rw (c.in-Some.ensures.taken, w.status-is)
      (subst (λ (held : Held). SelectionStatus c.args.asked.now c.args.hop held w.select-status.result) w.deref.ensures w.select-status.ensures.order)
]

use Rattle.std.proofs.Common.{◌≡◌, ◌+◌, ◌∷◌, length, drop, ap, sym, ◌∙◌, arith}
use Rattle.yarib_c.specs.Changes.{change_as}
use Rattle.yarib_c.proofs.ShownParts.{next_rest, shown_put, shown_skip}
use Rattle.yarib_c.proofs.changed.put_changes.Goals.{then-skip-total+then-total-skip, else-skip-total}
use Rattle.yarib_c.proofs.changed.put_changes.Goals.{else-skip-total-via-then-skip-total+else-total-skip, else-skip-total-via-else-skip-total}
use Rattle.yarib_c.proofs.changed.put_changes.Goals as goal

pub loop-change-preserved : goal.loop-change-preserved
loop-change-preserved c =
    let all = c.args.all in
    let skip = c.args.skip in
    let turn = c.loop-change in
    let shown = turn.invariant.shown in
    let change = c.in-Some.change in
    let rest = c.next.new.self in
    let steps : drop turn.total all ≡ change ∷ rest = sym turn.invariant.rest ∙ c.in-Some.ensures.steps in
    record {
      counted = omega (arith, turn.invariant.counted, ap length c.in-Some.ensures.steps);
      rest = next_rest all turn.total (turn.total + 1) change rest steps (omega arith);
      shown = elim c.if-skip-total.branch [
        | then-skip-total+then-total-skip w ↦
            rw (w.places-is, w.of.ensures)
            (shown_put change_as all skip turn.places turn.total change rest steps w.if-skip-total.true w.if-total-skip.true shown)
        | else-skip-total w ↦
            rw w.places-is
            (shown_skip change_as all skip turn.places turn.total (λ from room. elim w.else-skip-total.branch [
              | else-skip-total-via-then-skip-total+else-total-skip o ↦ omega (arith, room, o.if-total-skip.false)
              | else-skip-total-via-else-skip-total o ↦ omega (arith, from, o.if-skip-total.false)
            ]) shown)
      ];
    }

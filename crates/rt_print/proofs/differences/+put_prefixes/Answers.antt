use Rattle.std.proofs.Common.{◌≡◌, ◌-◌, ◌<◌, ◌∙◌, ℕ, List, [], flat_map, sym, subst, arith}
use Rattle.std.specs.Io.KnownBytes.{Appends}
use Rattle.std.proofs.KnownBytes.{Appends-nil}
use Rattle.std.proofs.lemmas.Nat.{one_shl, pow_pos}
use Rattle.rt_cidr.specs.Output.{WritesText}
use Rattle.rt_print.specs.DifferenceText.{answer_as, prefix_as}
use Rattle.rt_print.specs.RangePrefixes.{prefixes_in}
use Rattle.rt_print.proofs.RangePrefixes.{halved, lines_inside, lines_outside, lines_single, lines_halves}
use Rattle.rt_print.proofs.Writing.{stops_within, writes_after}
use Rattle.rt_print.proofs.differences.+put_prefixes.Goals as goal
use Rattle.rt_print.proofs.differences.+put_prefixes.Goals.{then-bits-eq0-via-then-bits-eq0, then-bits-eq0-via-else-bits-eq0+then-is_outside}

pub returns-then-is_inside : goal.returns-then-is_inside
returns-then-is_inside g t c =
    let change = c.args.change in
    let line = prefix_as change.syntax (answer_as change.old.by change.old.style.now change.old.answer.now) (answer_as change.new.by change.new.style.now change.new.answer.now) in
    let d = c.args.difference.now in
    let size = one_shl c.args.bits 64 (omega (arith, c.requires.few)) in
    subst (λ (text : List ℕ). WritesText (g.W.Write.contents c.args.w.now) (g.W.Write.contents c.put_prefix.new.w) text c.put_prefix.result)
    (lines_inside d.first.0 d.last.0 line c.args.bits c.args.base _ size (sym c.is_inside.ensures ∙ c.if-is_inside.true)) c.put_prefix.ensures

pub returns-then-bits-eq0 : goal.returns-then-bits-eq0
returns-then-bits-eq0 g t c =
    let change = c.args.change in
    let line = prefix_as change.syntax (answer_as change.old.by change.old.style.now change.old.answer.now) (answer_as change.new.by change.new.style.now change.new.answer.now) in
    let d = c.args.difference.now in
    let size = one_shl c.args.bits 64 (omega (arith, c.requires.few)) in
    let none : [] ≡ flat_map line (prefixes_in d.first.0 d.last.0 c.args.bits c.args.base) = elim c.then-bits-eq0.branch [
      | then-bits-eq0-via-then-bits-eq0 w ↦
          lines_single d.first.0 d.last.0 line c.args.bits c.args.base _ size (sym c.is_inside.ensures ∙ c.if-is_inside.false) w.if-bits-eq0.true
      | then-bits-eq0-via-else-bits-eq0+then-is_outside w ↦
          lines_outside d.first.0 d.last.0 line c.args.bits c.args.base _ size (sym w.is_outside.ensures ∙ w.if-is_outside.true)
    ] in
    record { ok = subst (Appends _ _) none (Appends-nil _); err = tt }

pub put_prefixes-requires : goal.put_prefixes-requires
put_prefixes-requires g t c = λ κs within.
    let some : 0 < c.args.bits = omega (arith, c.if-bits-eq0.false) in
    (omega (arith, some, c.decreases), (within, (omega (arith, c.requires.few), omega (arith, c.requires.fits, halved c.args.bits some))))

pub put_prefixes-requires-2 : goal.put_prefixes-requires-2
put_prefixes-requires-2 g t c = λ κs within.
    let some : 0 < c.args.bits = omega (arith, c.if-bits-eq0.false) in
    let half = one_shl (c.args.bits - 1) 32 (omega (arith, c.requires.few, some)) in
    (omega (arith, some, c.decreases), (within, (omega (arith, c.requires.few), omega (arith, c.requires.fits, half, halved c.args.bits some))))

pub overflow_add-base : goal.overflow_add-base
overflow_add-base g t c =
    let some : 0 < c.args.bits = omega (arith, c.if-bits-eq0.false) in
    let half = one_shl (c.args.bits - 1) 32 (omega (arith, c.requires.few, some)) in
    let here = pow_pos (c.args.bits - 1) in
    omega (arith, c.requires.fits, half, here, halved c.args.bits some)

pub returns-in_err-put_prefixes : goal.returns-in_err-put_prefixes
returns-in_err-put_prefixes g t c =
    let change = c.args.change in
    let line = prefix_as change.syntax (answer_as change.old.by change.old.style.now change.old.answer.now) (answer_as change.new.by change.new.style.now change.new.answer.now) in
    let d = c.args.difference.now in
    let some : 0 < c.args.bits = omega (arith, c.if-bits-eq0.false) in
    let size = one_shl c.args.bits 64 (omega (arith, c.requires.few)) in
    let halves = lines_halves d.first.0 d.last.0 line c.args.bits c.args.base _ size (sym c.is_inside.ensures ∙ c.if-is_inside.false) some in
    subst (λ (text : List ℕ). WritesText (g.W.Write.contents c.args.w.now) (g.W.Write.contents c.put_prefixes.new.w) text c.from_residual.result)
    halves (stops_within _ _ _ _ _ c.from_residual.ensures.0 c.in_err-put_prefixes.ensures.err)

pub returns : goal.returns
returns g t c =
    let change = c.args.change in
    let line = prefix_as change.syntax (answer_as change.old.by change.old.style.now change.old.answer.now) (answer_as change.new.by change.new.style.now change.new.answer.now) in
    let d = c.args.difference.now in
    let some : 0 < c.args.bits = omega (arith, c.if-bits-eq0.false) in
    let size = one_shl c.args.bits 64 (omega (arith, c.requires.few)) in
    let half = one_shl (c.args.bits - 1) 32 (omega (arith, c.requires.few, some)) in
    let halves = lines_halves d.first.0 d.last.0 line c.args.bits c.args.base _ size (sym c.is_inside.ensures ∙ c.if-is_inside.false) some in
    subst (λ (text : List ℕ). WritesText (g.W.Write.contents c.args.w.now) (g.W.Write.contents c.put_prefixes-2.new.w) text c.put_prefixes-2.result)
    halves (writes_after _ _ _ _ _ _ c.in_ok-put_prefixes.ensures.ok (rw half at c.put_prefixes-2.ensures))

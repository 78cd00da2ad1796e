use Rattle.std.proofs.Common.{sym, ◌∙◌, inl, inr, arith}
use Rattle.rt_cidr.proofs.Promised.{size_pos}
use Rattle.rt_trie.proofs.Blocks.{past_fits, covered_of_range, uncovered_of_range, outside_of_covers}
use Rattle.rt_trie.proofs.places.reach.Goals as goal

pub overflow_cast-result : goal.overflow_cast-result
overflow_cast-result c = omega (arith, past_fits c.args.prefix.now, c.past.ensures)

pub returns-then-address-base-clause-alike : goal.returns-then-address-base-clause-alike
returns-then-address-base-clause-alike c = λ b from to.
    let q = c.args.prefix.now in
    uncovered_of_range q b (inl (omega (arith, c.base.ensures, c.base-then-address-base.ensures)))
    ∙ sym (uncovered_of_range q c.args.address (inl (omega (arith, c.base.ensures))))

pub returns-then-covers-clause-alike : goal.returns-then-covers-clause-alike
returns-then-covers-clause-alike c = λ b from to.
    let q = c.args.prefix.now in
    covered_of_range q b (omega (arith, c.base.ensures)) (omega (arith, c.past.ensures, size_pos q.len)) ∙ c.if-covers.ensures

pub returns-else-covers-clause-alike : goal.returns-else-covers-clause-alike
returns-else-covers-clause-alike c = λ b from to.
    let q = c.args.prefix.now in
    elim (outside_of_covers q c.args.address (sym c.if-covers.ensures)) [
      | inl lt ↦ absurd (omega (arith, c.base.ensures))
      | inr ge ↦ uncovered_of_range q b (inr (omega arith)) ∙ c.if-covers.ensures
    ]

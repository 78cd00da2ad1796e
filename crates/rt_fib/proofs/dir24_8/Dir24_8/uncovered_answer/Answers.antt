use Rattle.std.proofs.Common.{sym, ◌∙◌, arith}
use Rattle.rt_fib.proofs.Others.{span_changes, nothing_changes}
use Rattle.rt_fib.proofs.dir24_8.Dir24_8.uncovered_answer.Goals as goal

pub returns-clause-change : goal.returns-clause-change
returns-clause-change g c =
    let own = rw (c.answer_by-before.ensures, c.len-else-not-covers.ensures) at (sym c.is_longer.ensures ∙ c.if-is_longer.false) in
    rw c.look_up-answer.ensures
    (span_changes c.args.prefix.now c.args.span _ c.look_up_finds_best.ensures c.nested.ensures.nested c.nested.ensures.contains c.ranges-2.ensures.covers
    c.requires.once c.requires.span (c.is_whole.ensures c.if-not-is_whole.false) c.in_ok-addr.addr (omega arith) (sym c.covers.ensures ∙ c.if-not-covers.false) own
    _ c.holds.ensures.once c.requires.others)

pub returns-clause-same : goal.returns-clause-same
returns-clause-same g c = λ is.
    let own = rw (c.answer_by-before.ensures, c.len-else-not-covers.ensures) at (sym c.is_longer.ensures ∙ c.if-is_longer.false) in
    nothing_changes c.args.prefix.now c.args.span _ c.look_up_finds_best.ensures c.nested.ensures.nested c.nested.ensures.contains c.ranges-2.ensures.covers
    c.requires.once c.requires.span (c.is_whole.ensures c.if-not-is_whole.false) c.in_ok-addr.addr (omega arith) (sym c.covers.ensures ∙ c.if-not-covers.false) own
    _ c.holds.ensures.once c.requires.others (sym c.answer_by-before.ensures ∙ (c.is_same-is_same.ensures.0 is ∙ c.look_up-answer.ensures))

use Rattle.std.proofs.Common.{◌+◌, sym, ◌∙◌, arith, length-set}
use Rattle.yarib_c.proofs.FilledLists.{filled_all, filled_next, filled_up}
use Rattle.yarib_c.proofs.pages.put_page.Goals as goal

pub loop-used-preserved : goal.loop-used-preserved
loop-used-preserved c =
    let i = c.loop-used.invariant in
    let used = c.loop-used.used in
    let s = filled_next c.args.from c.args.routes.now c.loop-used.routes used i.filled c.in-Some.route c.next.new.self (used + 1) c.of.result
    (omega (arith, i.long, c.loop-used-test.true)) (sym i.rest ∙ c.in-Some.ensures.steps) (omega arith) c.of.ensures in
    record { filled = s.0; rest = sym s.1; long = length-set c.loop-used.routes used c.of.result ∙ i.long }

pub returns-in-None : goal.returns-in-None
returns-in-None c =
    let i = c.loop-used.invariant in
    filled_all c.args.from c.args.routes.now c.loop-used.routes c.loop-used.used i.filled (sym i.rest ∙ c.in-None.ensures.steps.0)

pub returns : goal.returns
returns c =
    let i = c.loop-used.invariant in
    filled_up c.args.from c.args.routes.now c.loop-used.routes c.loop-used.used i.filled (omega (arith, i.long, c.loop-used-test.false))

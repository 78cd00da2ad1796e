use Rattle.std.proofs.Common.{◌≡◌, ◌-◌, length, ap, ◌∙◌, arith}
use Rattle.rt_feed.specs.Lines.{heading}
use Rattle.rt_run.specs.TableText.{faulty_tally}
use Rattle.rt_run.proofs.CountedLines.{lines_below}
use Rattle.rt_run.proofs.InTurn.{begins, reads_on, ends}
use Rattle.rt_run.proofs.turns.execute_text.Goals as goal

pub loop-line-init : goal.loop-line-init
loop-line-init c =
    let version = c.text_body-version.result.0 in
    let first = c.first_line-number.ensures in
    let count : c.first_line-number.result - 1 ≡ length (heading version) = omega (arith, first) in
    begins version c.args.feed c.args.text.now c.text_body-version.result.1.now _ _ _ c.text_body-version.ensures count
    (c.of-tally.ensures ∙ ap faulty_tally c.none.ensures)

pub count-requires : goal.count-requires
count-requires c =
    lines_below c.loop-line.invariant.outcomes _ c.loop-line.tally c.loop-line.invariant.tallied (omega (arith, c.loop-line.invariant.counted))

pub loop-line-preserved : goal.loop-line-preserved
loop-line-preserved c =
    reads_on _ c.args.feed c.args.text.now c.loop-line.rest.now c.in-Some.line.now c.in-Some.next.now c.loop-line.number _ _ _ _ _ _
    c.loop-line.invariant (c.in-Some.ensures {u = tt}) c.execute_line-said.ensures c.count.ensures

pub returns : goal.returns
returns c = ends _ c.args.feed c.args.text.now c.loop-line.rest.now c.loop-line.number _ _ _ c.loop-line.invariant (c.in_default.ensures {u = tt})

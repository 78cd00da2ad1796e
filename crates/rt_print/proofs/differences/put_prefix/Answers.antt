use Rattle.rt_print.specs.DifferenceText.{answer_as}
use Rattle.rt_print.proofs.LineParts.{prefix_object}
use Rattle.rt_print.proofs.differences.put_prefix.Goals as goal

pub returns-in-Json : goal.returns-in-Json
returns-in-Json g c =
    let change = c.args.change in
    rw (c.in-Json.is, ← prefix_object c.args.base.0 c.args.len (answer_as change.old.by change.old.style.now change.old.answer.now) (answer_as change.new.by change.new.style.now change.new.answer.now))
    (rw (c.from.ensures, c.in-Json.is) at c.put_to-in-Json.ensures)

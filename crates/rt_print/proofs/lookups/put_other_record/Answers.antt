use Rattle.std.proofs.Common.{append-nil}
use Rattle.rt_print.specs.Styles.{label_of}
use Rattle.rt_print.specs.inside.Parts.{label_pairs}
use Rattle.rt_print.proofs.LineParts.{other_record_parts}
use Rattle.rt_print.proofs.lookups.put_other_record.Goals as goal

pub returns : goal.returns
returns g c =
    let label = label_of (label_pairs c.args.labels.now) in
    let head = rw (c.new-head.ensures, append-nil) at c.prepend_record_head.ensures in
    let end = rw (c.new-end.ensures, append-nil) at c.prepend_record_reason.ensures in
    rw (← other_record_parts label c.args.addr c.args.best.now c.args.route.now)
    (rw (c.as_bytes.ensures, head, c.as_bytes-2.ensures, end) at c.put_route.ensures)

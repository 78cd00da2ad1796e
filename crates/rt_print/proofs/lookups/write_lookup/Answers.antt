use Rattle.std.proofs.Common.{◌≡◌, rules}
use Rattle.rt_print.specs.declared.format.Syntax.TheVariants.{Line, Json}
use Rattle.rt_print.specs.Styles.{label_of}
use Rattle.rt_print.proofs.LineParts.{none_line_parts, none_parts}
use Rattle.rt_print.proofs.lookups.write_lookup.Goals as goal

pub returns-in-Line-None : goal.returns-in-Line-None
returns-in-Line-None g c =
    let line : c.args.style.now.syntax ≡ Line = search rules in
    rw (line, c.in-Line-None.is-1, ← none_line_parts (label_of c.args.style.now.labels) c.args.addr) c.put_no_route.ensures

pub returns-in-Json-None : goal.returns-in-Json-None
returns-in-Json-None g c =
    let json : c.args.style.now.syntax ≡ Json = search rules in
    rw (json, c.in-Json-None.is-1, ← none_parts (label_of c.args.style.now.labels) c.args.addr) c.put_to.ensures

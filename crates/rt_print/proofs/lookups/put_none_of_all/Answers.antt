use Rattle.std.proofs.Common.{◌≡◌, rules}
use Rattle.rt_print.specs.declared.format.Syntax.TheVariants.{Line, Json}
use Rattle.rt_print.specs.Styles.{label_of, all_found_as}
use Rattle.rt_print.proofs.LineParts.{none_line_parts, none_of_all_parts}
use Rattle.rt_print.proofs.lookups.put_none_of_all.Goals as goal

pub returns-in-Line : goal.returns-in-Line
unfolding all_found_as
returns-in-Line g c =
    let line : c.args.style.now.syntax ≡ Line = search rules in
    rw (line, ← none_line_parts (label_of c.args.style.now.labels) c.args.addr) c.put_no_route.ensures

pub returns-in-Json : goal.returns-in-Json
returns-in-Json g c =
    let json : c.args.style.now.syntax ≡ Json = search rules in
    rw (json, ← none_of_all_parts (label_of c.args.style.now.labels) c.args.addr) c.put_to.ensures

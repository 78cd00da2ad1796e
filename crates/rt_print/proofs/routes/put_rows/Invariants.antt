use Rattle.std.proofs.Common.{take, flat_map}
use Rattle.std.specs.Io.KnownBytes.{Appends}
use Rattle.rt_print.specs.Styles.{label_of, row_as}
use Rattle.rt_print.specs.inside.Parts.{label_pairs}
use Rattle.rt_print.proofs.routes.put_rows.Given as goal

-- the routes so far were written
abbrev pub invariant-loop-route : goal.invariant-loop-route
invariant-loop-route g l =
    Appends (g.W.Write.contents l.fn.w) (g.W.Write.contents l.w)
    (flat_map (row_as l.syntax (label_of (label_pairs l.labels))) (take l.route-index l.routes))

use Rattle.std.proofs.Common.{◌≡◌, ◌+◌, ◌==◌, if◌then◌else◌, [], codes, take}
use Rattle.std.specs.Io.KnownBytes.{Appends}
use Rattle.rt_print.specs.Styles.{label_of}
use Rattle.rt_print.specs.inside.Parts.{others_as}
use Rattle.rt_print.proofs.lookups.write_all_matches.Given as goal

-- the routes so far were written, and a comma follows an object
abbrev pub invariant-loop-route : goal.invariant-loop-route
invariant-loop-route g l = record {
  comma : l.comma ≡ (if l.route-index + 1 == 1 then [] else codes ",");
  written : Appends (g.W.Write.contents l.initial.w) (g.W.Write.contents l.w)
      (others_as l.style.syntax (label_of l.style.labels) l.addr l.best 1 (take l.route-index l.others));
}

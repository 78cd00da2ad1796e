use Rattle.std.proofs.Common.{◌≡◌, ap, sym, ◌∙◌, subst}
use Rattle.std.specs.Prelude.{IfOk}
use Rattle.rt_cidr.specs.Prefix.{contains}
use Rattle.rt_rib.specs.Maps.{routes_of}
use Rattle.rt_rib.proofs.Selections.{in_all, filter_routes}
use Rattle.rt_rib.proofs.selection.routes_in.Goals as goal

pub returns-in-All : goal.returns-in-All
returns-in-All g c =
    rw c.in-All.is
    (subst (λ all. IfOk c.routes.result (λ routes. routes.items ≡ all)) (sym (in_all (routes_of c.args.map.now.pairs))) c.routes.ensures)

pub returns-in-Within : goal.returns-in-Within
returns-in-Within g c =
    rw (← c.map.view_is, c.in-Within.is)
    (subst (λ all. IfOk c.routes-in-Within.result (λ routes. routes.items ≡ all))
    (ap routes_of c.within.ensures.pairs ∙ sym (filter_routes (contains c.in-Within.prefix) c.map.inside.trie.pairs)) c.routes-in-Within.ensures)

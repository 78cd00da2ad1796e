use Rattle.std.proofs.Common.{rules, List, refl, ap, sym, subst, ◌∙◌}
use Rattle.rt_rib.specs.declared.routes.Route.{Route}
use Rattle.rt_rib.specs.declared.routes.Hop.TheVariants.{Discard}
use Rattle.rt_rib.specs.Places.{from_place}
use Rattle.yarib_c.specs.Kinds.{routes_in}
use Rattle.yarib_c.specs.Lists.{PutsRoutes, ShowsFrom}
use Rattle.yarib_c.proofs.pages.yarib_routes_from.Goals.{in-Err-Bits, in-Err, in-Ok+in-None-table, in-Ok+in-Some-table}
use Rattle.yarib_c.proofs.pages.yarib_routes_from.Goals as goal

pub returns-after-new-clause-done : goal.returns-after-new-clause-done
returns-after-new-clause-done c = elim c.match-new.branch [
  | in-Err-Bits w ↦ search rules
  | in-Err w ↦ search rules
  | in-Ok+in-None-table w ↦ search rules
  | in-Ok+in-Some-table w ↦
      let from = c.args.from.now in
      let place : Route = record { prefix = w.in-Ok.prefix; feed = from.feed; pref = from.pref; hop = Discard } in
      let routes = w.routes_from.ensures ∙ ap (from_place place) (sym w.in-Some-table.ensures.routes ∙ ap routes_in w.deref.ensures) in
      let shown : ShowsFrom from (routes_in c.in-Some.held.value) c.args.routes.now w.put_page.new.routes w.put_page.result = record {
        place = place;
        is = record { base = w.in-Ok.ensures.0; len = w.in-Ok.ensures.1; pref = refl; feed = refl };
        puts = subst (λ (l : List Route). PutsRoutes l c.args.routes.now w.put_page.new.routes w.put_page.result) routes w.put_page.ensures;
      } in
      rw (c.in-Some.ensures.taken, w.routes-is, w.used-is) (λ e. shown)
]

use Rattle.std.proofs.Common.{◌≡◌, ℕ, ◌+◌, ◌==◌, Bool, not, cond, List, [], ◌∷◌, sym, refl, ap, ◌∙◌, inl, inr, arith}
use Rattle.std.proofs.lemmas.Bool.{cases_Bool, cond-true}
use Rattle.std.proofs.lemmas.List.Sums.{sum_by-cons}
use Rattle.std.specs.List.{filter, sum_by}
use Rattle.rt_rib.specs.declared.routes.Route.{Route}
use Rattle.rt_rib.specs.Book.{table_state}
use Rattle.rt_rib.specs.Table.{count_of, purge}
use Rattle.rt_rib.proofs.Promised.{purged_routes}
use Rattle.rt_fib.proofs.purging.purge_rest.Goals as goal

-- a purge of a feed without routes leaves the table as it is
none_purged : (feed : ℕ) (t : List Route) → count_of feed t ≡ 0 → purge feed t ≡ t
none_purged feed [] none = refl
none_purged feed (r ∷ t) none =
    let one : Route → ℕ = λ s. cond (s.feed == feed) 1 0 in
    let stays : Route → Bool = λ s. not (s.feed == feed) in
    let all : sum_by one (r ∷ t) ≡ 0 = none in
    let whole : sum_by one (r ∷ t) ≡ one r + sum_by one t = sum_by-cons one r t in
    let rest : sum_by one t ≡ 0 = omega (arith, all, whole) in
    elim (cases_Bool (r.feed == feed)) [
      | inl own ↦ let more : one r ≡ 1 = cond-true (r.feed == feed) 1 0 own in absurd (omega (arith, all, whole, more))
      | inr other ↦
          cond-true (stays r) (r ∷ filter stays t) (filter stays t) (ap not other) ∙ ap (λ (u : List Route). r ∷ u) (none_purged feed t rest)
    ]

pub returns-in_err-fib-clause-routes : goal.returns-in_err-fib-clause-routes
returns-in_err-fib-clause-routes g c = purged_routes (table_state c.args.table.now) (table_state c.purge.new.self) c.args.feed _ c.purge.ensures

pub returns-then-rest-eq0-clause-routes : goal.returns-then-rest-eq0-clause-routes
returns-then-rest-eq0-clause-routes g c = purged_routes (table_state c.args.table.now) (table_state c.purge.new.self) c.args.feed _ c.purge.ensures

pub returns-then-rest-eq0-clause-followed : goal.returns-then-rest-eq0-clause-followed
returns-then-rest-eq0-clause-followed g c =
    let routes = purged_routes (table_state c.args.table.now) (table_state c.purge.new.self) c.args.feed _ c.purge.ensures in
    rw c.in_ok-fib.was at c.requires.same
    ∙ sym (routes ∙ none_purged c.args.feed c.args.table.now.routes (sym c.count-rest.ensures ∙ c.if-rest-eq0.true))

pub returns-clause-routes : goal.returns-clause-routes
returns-clause-routes g c = purged_routes (table_state c.args.table.now) (table_state c.purge.new.self) c.args.feed _ c.purge.ensures

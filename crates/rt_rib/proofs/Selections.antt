-- The selected routes, in terms of a map: those of the selected pairs, and the best of these.
use Rattle.std.proofs.Common.{◌≡◌, ℕ, sym, Bool, true, false, cond, eqb, ltb, inl, inr, List, [], ◌∷◌, ◌++◌, map, refl, ap, ◌∙◌, subst, arith}
use Rattle.std.specs.Prelude.{◌==◌, ◌&&◌, length, Option, Some, None, if◌then◌else◌}
use Rattle.std.specs.List.{filter}
use Rattle.std.proofs.lemmas.Bool.{cases_Bool, and_parts, eqb-true, ltb-true, false_from_ne_true, true≢false}
use Rattle.std.proofs.lemmas.List.Elements.{filter-append, filter_agree}
use Rattle.std.proofs.lemmas.List.{append-nil}
use Rattle.rt_cidr.specs.declared.prefixes.Prefix.{Prefix}
use Rattle.rt_cidr.specs.Prefix.{same_prefix}
use Rattle.rt_cidr.proofs.Promised.{prefix_by_parts}
use Rattle.rt_trie.specs.Map.{before, IsBeforeAll, IsOrdered}
use Rattle.rt_rib.specs.declared.routes.Hop.{Hop}
use Rattle.rt_rib.specs.declared.routes.Hop.TheVariants.{Via, Discard}
use Rattle.rt_rib.specs.declared.routes.Route.{Route}
use Rattle.rt_rib.specs.declared.offers.Offer.{Offer}
use Rattle.rt_rib.specs.declared.selection.Selection.{Selection}
use Rattle.rt_rib.specs.declared.selection.PrefixFilter.TheVariants.{All}
use Rattle.rt_rib.specs.LookUp.{best_routes}
use Rattle.rt_rib.specs.Maps.{Map, route_by, routes_of}
use Rattle.rt_rib.specs.Selection.{is_in, is_one_of, is_by, same_hop, is_via, selected}
use Rattle.rt_rib.specs.Table.{IsTable}
use Rattle.rt_rib.specs.contracts.routes.HopPartialEq.TheImpl as of_hop
use Rattle.rt_rib.specs.inside.Maps.{offers_at}
use Rattle.rt_rib.proofs.BestRoutes.{best_passing}
use Rattle.rt_rib.proofs.Order.{below_then-true}

-- two filters in sequence are one filter
filter-filter : {X : Type 0} (f g : X → Bool) (xs : List X) → filter g (filter f xs) ≡ filter (λ x. f x && g x) xs
filter-filter f g [] = refl
filter-filter f g (x ∷ xs) = elim (cases_Bool (f x)) [
  | inl passes ↦ elim (cases_Bool (g x)) [
    | inl both ↦ rw (passes, both) (ap (λ l. x ∷ l) (filter-filter f g xs))
    | inr one ↦ rw (passes, one) (filter-filter f g xs)
  ]
  | inr fails ↦ rw fails (filter-filter f g xs)
]

-- every route is of any feed
by_any : (xs : List Route) → filter (is_by []) xs ≡ xs
by_any [] = refl
by_any (r ∷ xs) = ap (λ l. r ∷ l) (by_any xs)

pub by_none : (feeds : List ℕ) (xs : List Route) → (length feeds == 0) ≡ true → xs ≡ filter (is_by feeds) xs
by_none [] xs none = sym (by_any xs)
by_none (n ∷ feeds) xs none = absurd (omega (arith, eqb-true (length (n ∷ feeds)) 0 none))

-- if there are feeds, the routes of selected feeds are those of one of them
pub by_these : (feeds : List ℕ) (xs : List Route) → (length feeds == 0) ≡ false → filter (λ r. is_one_of feeds r.feed) xs ≡ filter (is_by feeds) xs
by_these [] xs some = absurd (true≢false some)
by_these (n ∷ feeds) xs some = refl

-- every route has any next hop
via_any : (xs : List Route) → filter (is_via None) xs ≡ xs
via_any [] = refl
via_any (r ∷ xs) = ap (λ l. r ∷ l) (via_any xs)

pub via_none : (hop : Option Hop) (xs : List Route) → ((h : Hop) → hop ≡ Some h → ⊥) → xs ≡ filter (is_via hop) xs
via_none None xs h = sym (via_any xs)
via_none (Some k) xs h = absurd (h k refl)

-- `==` of two next hops is whether they are the same
eq_is_same : (h k : Hop) → (of_hop.ghosts).eq h k ≡ same_hop h k
eq_is_same (Via a) (Via b) = refl
eq_is_same (Via a) Discard = refl
eq_is_same Discard (Via b) = refl
eq_is_same Discard Discard = refl

pub via_eq : (hop : Hop) (xs : List Route) → filter (λ r. (of_hop.ghosts).eq r.hop hop) xs ≡ filter (is_via (Some hop)) xs
via_eq hop xs i = filter (λ r. eq_is_same r.hop hop i) xs

-- every route is in the whole table
pub in_all : (xs : List Route) → filter (λ r. is_in All r.prefix) xs ≡ xs
in_all [] = refl
in_all (r ∷ xs) = ap (λ l. r ∷ l) (in_all xs)

module _ (t : Prefix → Bool) where
  -- either all routes to a prefix pass a test of the prefix, or none does
  filter-made : (p : Prefix) (offers : List Offer) (passes : Bool) → t p ≡ passes
      → filter (λ r. t r.prefix) (map (route_by p) offers) ≡ cond passes (map (route_by p) offers) []
  filter-made p [] true e = refl
  filter-made p [] false e = refl
  filter-made p (o ∷ offers) true e = rw e (ap (λ l. route_by p o ∷ l) (filter-made p offers true e))
  filter-made p (o ∷ offers) false e = rw e (filter-made p offers false e)

  -- the routes that pass are those of the pairs that pass
  pub filter_routes : (m : Map) → filter (λ r. t r.prefix) (routes_of m) ≡ routes_of (filter (λ x. t x.0) m)
  filter_routes [] = refl
  filter_routes ((p, offers) ∷ rest) =
      let here = map (route_by p) offers in
      let apart = filter-append (λ r. t r.prefix) here (routes_of rest) in
      elim (cases_Bool (t p)) [
        | inl passes ↦ rw passes (apart ∙ ap (λ l. l ++ filter (λ r. t r.prefix) (routes_of rest)) (filter-made p offers true passes)
            ∙ ap (λ l. here ++ l) (filter_routes rest))
        | inr fails ↦ rw fails (apart ∙ ap (λ l. l ++ filter (λ r. t r.prefix) (routes_of rest)) (filter-made p offers false fails)
            ∙ filter_routes rest)
      ]

-- a prefix that comes after another differs from it
pub another : (p q : Prefix) → before p q ≡ true → same_prefix q p ≡ false
another p q e =
    false_from_ne_true (same_prefix q p) (λ one.
    let parts = and_parts (eqb q.base p.base) (eqb q.len p.len) one in
    let base = eqb-true q.base p.base parts.0 in
    let len = eqb-true q.len p.len parts.1 in
    elim (below_then-true p.base q.base (ltb p.len q.len) e) [
      | inl less ↦ omega arith
      | inr equal ↦ let low = ltb-true p.len q.len equal.1 in omega arith
    ])

none_behind : (p : Prefix) (rest : Map) → IsBeforeAll p rest → filter (λ x. same_prefix x.0 p) rest ≡ []
none_behind p [] h = refl
none_behind p ((q, offers) ∷ rest) h = rw (another p q h.0) (none_behind p rest h.1)

-- the routes to a prefix are those of the offers there
pub routes_at : (p : Prefix) (m : Map) → IsOrdered m → filter (λ r. same_prefix r.prefix p) (routes_of m) ≡ map (route_by p) (offers_at m p)
routes_at p m order = filter_routes (λ q. same_prefix q p) m ∙ at m order where
  at : (m : Map) → IsOrdered m → routes_of (filter (λ x. same_prefix x.0 p) m) ≡ map (route_by p) (offers_at m p)
  at [] order = refl
  at ((q, offers) ∷ rest) order = elim (cases_Bool (same_prefix q p)) [
    | inl one ↦
        let parts = and_parts (eqb q.base p.base) (eqb q.len p.len) one in
        let is : q ≡ p = prefix_by_parts q p (eqb-true q.base p.base parts.0) (eqb-true q.len p.len parts.1) in
        let none : filter (λ x. same_prefix x.0 p) rest ≡ [] = none_behind p rest (subst (λ x. IsBeforeAll x rest) is order.0) in
        rw one (rw none (append-nil (map (route_by q) offers) ∙ ap (λ x. map (route_by x) offers) is))
    | inr other ↦ rw other (at rest order.1)
  ]

-- selecting from the part's routes gives the same as selecting from all routes
pub selected_of_part : (asked : Selection) (table : List Route) → IsTable table
    → filter (is_via asked.hop) (filter (is_by asked.feeds.now) (if asked.only_best then best_routes (filter (λ r. is_in asked.part r.prefix) table)
    else filter (λ r. is_in asked.part r.prefix) table)) ≡ selected asked table
selected_of_part asked table h = by_best asked.only_best where
  kept : List Route → List Route
  kept routes = filter (is_via asked.hop) (filter (is_by asked.feeds.now) routes)

  three : (routes : List Route) → kept (filter (λ r. is_in asked.part r.prefix) routes)
      ≡ filter (λ r. is_in asked.part r.prefix && is_by asked.feeds.now r && is_via asked.hop r) routes
  three routes = ap (filter (is_via asked.hop)) (filter-filter (λ r. is_in asked.part r.prefix) (is_by asked.feeds.now) routes)
      ∙ filter-filter (λ r. is_in asked.part r.prefix && is_by asked.feeds.now r) (is_via asked.hop) routes

  by_best : (only_best : Bool) → kept (cond only_best (best_routes (filter (λ r. is_in asked.part r.prefix) table)) (filter (λ r. is_in asked.part r.prefix) table))
      ≡ filter (λ r. is_in asked.part r.prefix && is_by asked.feeds.now r && is_via asked.hop r) (cond only_best (best_routes table) table)
  by_best true = ap kept (best_passing (is_in asked.part) table h) ∙ three (best_routes table)
  by_best false = three table

-- two tests that are always true change nothing
and_always : (a b c : Bool) → (a && true && true) && b && c ≡ a && b && c
and_always true b c = refl
and_always false b c = refl

-- the same routes are selected at once and by one filter after another: first for any feed and next hop
pub selected_by_filters : (asked every : Selection) (table : List Route)
    → every.part ≡ asked.part → every.only_best ≡ asked.only_best → every.feeds.now ≡ [] → every.hop ≡ None
    → filter (is_via asked.hop) (filter (is_by asked.feeds.now) (selected every table)) ≡ selected asked table
selected_by_filters asked every table is_part is_best is_feeds is_hop =
    rw (is_part, is_best, is_feeds, is_hop) (
    let routes = if asked.only_best then best_routes table else table in
    let part : Route → Bool = λ r. is_in asked.part r.prefix && true && true in
    ap (filter (is_via asked.hop)) (filter-filter part (is_by asked.feeds.now) routes)
    ∙ filter-filter (λ r. part r && is_by asked.feeds.now r) (is_via asked.hop) routes
    ∙ filter_agree (λ r. part r && is_by asked.feeds.now r && is_via asked.hop r)
    (λ r. is_in asked.part r.prefix && is_by asked.feeds.now r && is_via asked.hop r)
    (λ r. and_always (is_in asked.part r.prefix) (is_by asked.feeds.now r) (is_via asked.hop r)) routes)

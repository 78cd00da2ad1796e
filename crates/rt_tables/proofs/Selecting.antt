-- Selecting from two tables and from their union.
use Rattle.std.proofs.Common.{◌≡◌, ◌⊎◌, Bool, true, false, not, eqb, inl, inr, List, [], ◌∷◌, refl, ap, ◌∙◌, sym, subst}
use Rattle.std.proofs.lemmas.Bool.{cases_Bool, both_ways, false_from_ne_true, and_parts, and_from, eqb-true, not-true, not_from_false}
use Rattle.std.proofs.lemmas.List.Kept.{AllPairs-filter}
use Rattle.std.specs.Prelude.{◌↔◌, ◌&&◌}
use Rattle.std.specs.List.{Contains, filter, list_all}
use Rattle.rt_cidr.specs.Prefix.{same_prefix}
use Rattle.rt_cidr.proofs.Promised.{prefix_by_parts}
use Rattle.rt_rib.specs.declared.routes.Route.{Route}
use Rattle.rt_rib.specs.declared.selection.Selection.{Selection}
use Rattle.rt_rib.specs.LookUp.{best_routes}
use Rattle.rt_rib.specs.Selection.{is_in, is_by, is_via, selected}
use Rattle.rt_rib.specs.Table.{is_better, IsTable}
use Rattle.rt_rib.proofs.Best.{list_all-contained, list_all-from_contained}
use Rattle.rt_rib.proofs.Order.{is_better-trans, is_better-itself}
use Rattle.rt_rib.proofs.Sets.{Contains-head, Contains-tail, Contains-cases, Contains-none, filter-keeps, filter-from, one_table_of_set}
use Rattle.rt_rib.proofs.Tables.{Ordered, Apart}
use Rattle.rt_tables.specs.Unions.{union_of}
use Rattle.rt_tables.specs.inside.Tables.{AreTables, IsBeforeFilters}
use Rattle.rt_tables.proofs.Pairs.{two, two_contains, two_tables, two_union, two_differ, first_table, second_table}

-- a filtered table is a table
pub IsTable-filter : (p : Route → Bool) (t : List Route) → IsTable t → IsTable (filter p t)
IsTable-filter p t h = record { ordered = AllPairs-filter Ordered p t h.ordered; single = AllPairs-filter Apart p t h.single }

-- a route is better than another one to the same prefix
abbrev surpasses : Route → Route → Bool
surpasses s r = same_prefix s.prefix r.prefix && is_better s r

same_prefix-parts : (s r : Route) → same_prefix s.prefix r.prefix ≡ true → s.prefix ≡ r.prefix
same_prefix-parts s r e =
    let parts = and_parts (eqb s.prefix.base r.prefix.base) (eqb s.prefix.len r.prefix.len) e in
    prefix_by_parts s.prefix r.prefix (eqb-true s.prefix.base r.prefix.base parts.0) (eqb-true s.prefix.len r.prefix.len parts.1)

surpasses-trans : (r s u : Route) → surpasses r s ≡ true → surpasses s u ≡ true → surpasses r u ≡ true
surpasses-trans r s u x y =
    let one = and_parts (same_prefix r.prefix s.prefix) (is_better r s) x in
    let other = and_parts (same_prefix s.prefix u.prefix) (is_better s u) y in
    and_from (same_prefix r.prefix u.prefix) (is_better r u) (ap (λ p. same_prefix p u.prefix) (same_prefix-parts r s one.0) ∙ other.0)
    (is_better-trans r s u one.1 other.1)

surpasses-itself : (r : Route) → surpasses r r ≡ false
surpasses-itself r = false_from_ne_true (surpasses r r) (λ e.
    both_ways (is_better r r) (is_better-itself r) (and_parts (same_prefix r.prefix r.prefix) (is_better r r) e).1)

-- a route that none of the table surpasses, which is the given one or surpasses it
top : (t : List Route) (m : Route) → (n : Route) × ((n ≡ m) ⊎ (Contains t n × (surpasses n m ≡ true))) × ((s : Route) → Contains t s → surpasses s n ≡ false)
top [] m = (m, inl refl, (λ s c. absurd (Contains-none s c)))
top (x ∷ t) m = elim (cases_Bool (surpasses x m)) [
  | inl over ↦
      let n = top t x in (
        n.0,
        elim n.1 [
          | inl same ↦ inr (subst (Contains (x ∷ t)) (sym same) (Contains-head x t), subst (λ r. surpasses r m ≡ true) (sym same) over)
          | inr more ↦ inr (Contains-tail x t n.0 more.0, surpasses-trans n.0 x m more.1 over)
        ],
        (λ s c. elim (Contains-cases x t s c) [
          | inl here ↦ subst (λ r. surpasses r n.0 ≡ false) here (elim n.1 [
            | inl same ↦ subst (λ r. surpasses x r ≡ false) (sym same) (surpasses-itself x)
            | inr more ↦ false_from_ne_true (surpasses x n.0) (λ back. both_ways (surpasses x x) (surpasses-itself x) (surpasses-trans x n.0 x back more.1))
          ])
          | inr later ↦ n.2 s later
        ]),
      )
  | inr under ↦
      let n = top t m in (
        n.0,
        elim n.1 [ inl same ↦ inl same | inr more ↦ inr (Contains-tail x t n.0 more.0, more.1) ],
        (λ s c. elim (Contains-cases x t s c) [
          | inl here ↦ subst (λ r. surpasses r n.0 ≡ false) here (elim n.1 [
            | inl same ↦ subst (λ r. surpasses x r ≡ false) (sym same) under
            | inr more ↦ false_from_ne_true (surpasses x n.0) (λ back. both_ways (surpasses x m) under (surpasses-trans x n.0 m back more.1))
          ])
          | inr later ↦ n.2 s later
        ]),
      )
]

-- the best routes are those that none of the table surpasses
best_contains : (t : List Route) (r : Route) → Contains (best_routes t) r ↔ (Contains t r × ((s : Route) → Contains t s → surpasses s r ≡ false))
best_contains t r =
    let none = λ (r : Route). list_all (λ (s : Route). not (surpasses s r)) t in (
      (λ c.
          let from = filter-from none t r c in
          (from.0, (λ s d. not-true (surpasses s r) (list_all-contained (λ (s : Route). not (surpasses s r)) t s from.1 d)))),
      (λ c.
          filter-keeps none t r c.0
          (list_all-from_contained (λ (s : Route). not (surpasses s r)) t (λ s d. not_from_false (surpasses s r) (c.1 s d)))),
    )

pub IsTable-best : (t : List Route) → IsTable t → IsTable (best_routes t)
IsTable-best t h = IsTable-filter (λ r. list_all (λ (s : Route). not (surpasses s r)) t) t h

module _ (p : Route → Bool) (t u : List Route) (h : AreTables (two t u)) where
  -- the routes of each table that pass
  filtered_tables : AreTables (two (filter p t) (filter p u))
  filtered_tables =
      two_tables (filter p t) (filter p u) (IsTable-filter p t (first_table t u h)) (IsTable-filter p u (second_table t u h))
      (λ r s c d. two_differ t u h r s (filter-from p t r c).0 (filter-from p u s d).0)

  -- their union has the routes of the union that pass
  filter_of_two : union_of (two (filter p t) (filter p u)) ≡ filter p (union_of (two t u))
  filter_of_two =
      let parts = filtered_tables in
      let all = union_of (two t u) in
      one_table_of_set (union_of (two (filter p t) (filter p u))) (filter p all) (two_union (filter p t) (filter p u) parts)
      (IsTable-filter p all (two_union t u h)) (λ r.
      let lists = two_contains (filter p t) (filter p u) r in
      let both = two_contains t u r in (
        (λ c. elim (lists.0 c) [
          | inl one ↦ let from = filter-from p t r one in filter-keeps p all r (both.1 (inl from.0)) from.1
          | inr other ↦ let from = filter-from p u r other in filter-keeps p all r (both.1 (inr from.0)) from.1
        ]),
        (λ c.
            let from = filter-from p all r c in
            elim (both.0 from.0) [
              | inl one ↦ lists.1 (inl (filter-keeps p t r one from.1))
              | inr other ↦ lists.1 (inr (filter-keeps p u r other from.1))
            ]),
      ))

  -- the best routes of each table that pass
  abbrev best_that_pass : List Route → List Route
  best_that_pass l = filter p (best_routes l)

  best_tables : AreTables (two (best_that_pass t) (best_that_pass u))
  best_tables =
      two_tables (best_that_pass t) (best_that_pass u) (IsTable-filter p (best_routes t) (IsTable-best t (first_table t u h)))
      (IsTable-filter p (best_routes u) (IsTable-best u (second_table t u h)))
      (λ r s c d. two_differ t u h r s ((best_contains t r).0 (filter-from p (best_routes t) r c).0).0
      ((best_contains u s).0 (filter-from p (best_routes u) s d).0).0)

  -- if all routes to a prefix pass or none does, the best of these are the best routes of the union that pass
  module _ (by_prefix : (s r : Route) → s.prefix ≡ r.prefix → p r ≡ true → p s ≡ true) where
    abbrev lists : List Route
    lists = union_of (two (best_that_pass t) (best_that_pass u))

    abbrev all : List Route
    all = union_of (two t u)

    -- a route of the lists is a route of the tables that passes
    from_lists : (r : Route) → Contains lists r → Contains all r × (p r ≡ true)
    from_lists r c = elim ((two_contains (best_that_pass t) (best_that_pass u) r).0 c) [
      | inl one ↦ let from = filter-from p (best_routes t) r one in ((two_contains t u r).1 (inl ((best_contains t r).0 from.0).0), from.1)
      | inr other ↦ let from = filter-from p (best_routes u) r other in ((two_contains t u r).1 (inr ((best_contains u r).0 from.0).0), from.1)
    ]

    -- a route of the tables that passes is in the lists, or one that surpasses it is
    covered : (s : Route) → Contains all s → p s ≡ true → (n : Route) × Contains lists n × ((n ≡ s) ⊎ (surpasses n s ≡ true))
    covered s c pass = elim ((two_contains t u s).0 c) [
      | inl one ↦ let n = best_in t s one pass in (n.0, (two_contains (best_that_pass t) (best_that_pass u) n.0).1 (inl n.1), n.2)
      | inr other ↦ let n = best_in u s other pass in (n.0, (two_contains (best_that_pass t) (best_that_pass u) n.0).1 (inr n.1), n.2)
    ] where
      best_in : (l : List Route) (s : Route) → Contains l s → p s ≡ true → (n : Route) × Contains (best_that_pass l) n × ((n ≡ s) ⊎ (surpasses n s ≡ true))
      best_in l s c pass =
          let n = top l s in (
            n.0,
            elim n.1 [
              | inl same ↦
                  filter-keeps p (best_routes l) n.0 ((best_contains l n.0).1 (subst (Contains l) (sym same) c, n.2)) (ap p same ∙ pass)
              | inr more ↦
                  filter-keeps p (best_routes l) n.0 ((best_contains l n.0).1 (more.0, n.2))
                  (by_prefix n.0 s (same_prefix-parts n.0 s (and_parts (same_prefix n.0.prefix s.prefix) (is_better n.0 s) more.1).0) pass)
            ],
            elim n.1 [ inl same ↦ inl same | inr more ↦ inr more.1 ],
          )

    best_of_two : best_routes lists ≡ filter p (best_routes all)
    best_of_two =
        one_table_of_set (best_routes lists) (filter p (best_routes all)) (IsTable-best lists (two_union (best_that_pass t) (best_that_pass u) best_tables))
        (IsTable-filter p (best_routes all) (IsTable-best all (two_union t u h))) (λ r. (
          (λ c.
              let best = (best_contains lists r).0 c in
              let from = from_lists r best.0 in
              filter-keeps p (best_routes all) r
              ((best_contains all r).1 (
                from.0,
                (λ s d. false_from_ne_true (surpasses s r) (λ over.
                    let n = covered s d (by_prefix s r (same_prefix-parts s r (and_parts (same_prefix s.prefix r.prefix) (is_better s r) over).0) from.1) in
                    both_ways (surpasses n.0 r) (best.1 n.0 n.1)
                    (elim n.2 [ inl same ↦ ap (λ x. surpasses x r) same ∙ over | inr more ↦ surpasses-trans n.0 s r more over ]))),
              ))
              from.1),
          (λ c.
              let pass = filter-from p (best_routes all) r c in
              let best = (best_contains all r).0 pass.0 in
              let n = covered r best.0 pass.1 in
              let there : Contains lists r = elim n.2 [
                | inl same ↦ subst (Contains lists) same n.1
                | inr more ↦ absurd (both_ways (surpasses n.0 r) (best.1 n.0 (from_lists n.0 n.1).0) more)
              ] in
              (best_contains lists r).1 (there, (λ s d. best.1 s (from_lists s d).0))),
        ))

-- whether a route is selected
abbrev passes : Selection → Route → Bool
passes asked r = is_in asked.part r.prefix && is_by asked.feeds.now r && is_via asked.hop r

module _ (asked : Selection) (t u : List Route) (h : AreTables (two t u)) where
  -- the selected routes of two tables are tables of different feeds
  pub selected_tables : AreTables (two (selected asked t) (selected asked u))
  selected_tables = elim (cases_Bool asked.only_best) [
    | inl best ↦ rw best (best_tables (passes asked) t u h)
    | inr all ↦ rw all (filtered_tables (passes asked) t u h)
  ]

  -- all of them
  pub selected_of_two : asked.only_best ≡ false → union_of (two (selected asked t) (selected asked u)) ≡ selected asked (union_of (two t u))
  selected_of_two all = rw all (filter_of_two (passes asked) t u h)

  -- the best of them
  pub best_selected_of_two : IsBeforeFilters asked → asked.only_best ≡ true
      → best_routes (union_of (two (selected asked t) (selected asked u))) ≡ selected asked (union_of (two t u))
  best_selected_of_two before best =
      let filters = before best in
      let by_prefix : (s r : Route) → s.prefix ≡ r.prefix → passes asked r ≡ true → passes asked s ≡ true =
      λ s r same pass.
      let outer = and_parts (is_in asked.part r.prefix && is_by asked.feeds.now r) (is_via asked.hop r) pass in
      let inner = and_parts (is_in asked.part r.prefix) (is_by asked.feeds.now r) outer.0 in
      and_from (is_in asked.part s.prefix && is_by asked.feeds.now s) (is_via asked.hop s)
      (and_from (is_in asked.part s.prefix) (is_by asked.feeds.now s) (ap (is_in asked.part) same ∙ inner.0) (rw filters.0 refl))
      (rw filters.1 refl) in
      rw best (best_of_two (passes asked) t u h by_prefix)

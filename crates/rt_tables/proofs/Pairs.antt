-- The union of two tables, and of the tables of two lists.
use Rattle.std.proofs.Common.{◌≡◌, ◌⊎◌, inl, inr, List, [], ◌∷◌, ◌++◌, ap, sym, subst, ◌∙◌}
use Rattle.std.proofs.lemmas.List.Elements.{All-cons, All-nil, All-contains, Contains-append_left, Contains-append_right, Contains-append_cases}
use Rattle.std.proofs.lemmas.List.Kept.{AllPairs-cons}
use Rattle.std.specs.Prelude.{◌↔◌}
use Rattle.std.specs.List.{Contains}
use Rattle.rt_rib.specs.declared.routes.Route.{Route}
use Rattle.rt_rib.specs.Table.{IsTable}
use Rattle.rt_rib.proofs.Sets.{Contains-head, Contains-tail, Contains-cases, Contains-none}
use Rattle.rt_tables.specs.Unions.{union_of, HaveNoFeedInCommon}
use Rattle.rt_tables.specs.Laws.{AnyContains}
use Rattle.rt_tables.specs.inside.Tables.{AreTables}
use Rattle.rt_tables.proofs.Lists.{All-from_contained, AllPairs-nil, AllPairs-front, AllPairs-back, AllPairs-across}
use Rattle.rt_tables.proofs.Unions.{union_has_their_routes, union_is_table, one_union}

-- the two tables
abbrev pub two : List Route → List Route → List (List Route)
two t u = t ∷ u ∷ []

module _ (t u : List Route) where
  -- a route of one of the two
  either_contains : (r : Route) → AnyContains (two t u) r ↔ (Contains t r ⊎ Contains u r)
  either_contains r = (
    (λ c. elim (Contains-cases t (u ∷ []) c.0 c.1) [
      | inl first ↦ inl (subst (λ l. Contains l r) (sym first) c.2)
      | inr later ↦ elim (Contains-cases u [] c.0 later) [
        | inl second ↦ inr (subst (λ l. Contains l r) (sym second) c.2)
        | inr none ↦ absurd (Contains-none c.0 none)
      ]
    ]),
    (λ c. elim c [
      | inl first ↦ (t, Contains-head t (u ∷ []), first)
      | inr second ↦ (u, Contains-tail t (u ∷ []) u (Contains-head u []), second)
    ]),
  )

  -- the union has the routes of both
  pub two_contains : (r : Route) → Contains (union_of (two t u)) r ↔ (Contains t r ⊎ Contains u r)
  two_contains r =
      let union = union_has_their_routes (two t u) r in
      let either = either_contains r in ((λ c. either.0 (union.0 c)), (λ c. union.1 (either.1 c)))

  -- two tables of different feeds
  pub two_tables : IsTable t → IsTable u → HaveNoFeedInCommon t u → AreTables (two t u)
  two_tables h k differ = record {
    each = All-cons IsTable t (u ∷ []) h (All-cons IsTable u [] k (All-nil IsTable));
    differ =
        AllPairs-cons HaveNoFeedInCommon t (u ∷ []) (All-cons (HaveNoFeedInCommon t) u [] differ (All-nil (HaveNoFeedInCommon t)))
        (AllPairs-cons HaveNoFeedInCommon u [] (All-nil (HaveNoFeedInCommon u)) (AllPairs-nil HaveNoFeedInCommon));
  }

  module _ (h : AreTables (two t u)) where
    pub first_table : IsTable t
    first_table = All-contains IsTable (two t u) t h.each (Contains-head t (u ∷ []))

    pub second_table : IsTable u
    second_table = All-contains IsTable (two t u) u h.each (Contains-tail t (u ∷ []) u (Contains-head u []))

    pub two_differ : HaveNoFeedInCommon t u
    two_differ = AllPairs-across HaveNoFeedInCommon (t ∷ []) (u ∷ []) h.differ t u (Contains-head t []) (Contains-head u [])

    pub two_union : IsTable (union_of (two t u))
    two_union = union_is_table (two t u) h.each h.differ

    -- a table with the routes of both is their union
    pub one_of_two : (table : List Route) → IsTable table → ((r : Route) → Contains table r ↔ (Contains t r ⊎ Contains u r)) → table ≡ union_of (two t u)
    one_of_two table is same = one_union (two t u) table h.each h.differ is (λ r.
        let s = same r in
        let either = either_contains r in ((λ c. either.1 (s.0 c)), (λ c. s.1 (either.0 c))))

-- the union of one table
pub union_of_one : (t : List Route) → IsTable t → union_of (t ∷ []) ≡ t
union_of_one t h =
    sym (one_union (t ∷ []) t (All-cons IsTable t [] h (All-nil IsTable))
    (AllPairs-cons HaveNoFeedInCommon t [] (All-nil (HaveNoFeedInCommon t)) (AllPairs-nil HaveNoFeedInCommon)) h (λ r. (
      (λ c. (t, Contains-head t [], c)),
      (λ c. elim (Contains-cases t [] c.0 c.1)
          [ inl same ↦ subst (λ l. Contains l r) (sym same) c.2 | inr none ↦ absurd (Contains-none c.0 none) ]),
    )))

module _ (ts us : List (List Route)) (h : AreTables (ts ++ us)) where
  -- the tables of the first list
  pub front_tables : AreTables ts
  front_tables = record {
    each = All-from_contained IsTable ts (λ t c. All-contains IsTable (ts ++ us) t h.each (Contains-append_left ts us t c));
    differ = AllPairs-front HaveNoFeedInCommon ts us h.differ;
  }

  -- and those of the second
  pub back_tables : AreTables us
  back_tables = record {
    each = All-from_contained IsTable us (λ t c. All-contains IsTable (ts ++ us) t h.each (Contains-append_right ts us t c));
    differ = AllPairs-back HaveNoFeedInCommon ts us h.differ;
  }

  -- the unions of the two lists are tables of different feeds
  pub union_tables : AreTables (two (union_of ts) (union_of us))
  union_tables =
      two_tables (union_of ts) (union_of us) (union_is_table ts front_tables.each front_tables.differ)
      (union_is_table us back_tables.each back_tables.differ)
      (λ r s c d.
      let x = (union_has_their_routes ts r).0 c in
      let y = (union_has_their_routes us s).0 d in
      AllPairs-across HaveNoFeedInCommon ts us h.differ x.0 y.0 x.1 y.1 r s x.2 y.2)

  -- their union is that of all tables
  pub union_append : union_of (ts ++ us) ≡ union_of (two (union_of ts) (union_of us))
  union_append =
      one_of_two (union_of ts) (union_of us) union_tables (union_of (ts ++ us)) (union_is_table (ts ++ us) h.each h.differ) (λ r.
      let all = union_has_their_routes (ts ++ us) r in
      let front = union_has_their_routes ts r in
      let back = union_has_their_routes us r in (
        (λ c.
            let x = all.0 c in
            elim (Contains-append_cases ts us x.0 x.1) [ inl first ↦ inl (front.1 (x.0, first, x.2)) | inr second ↦ inr (back.1 (x.0, second, x.2)) ]),
        (λ c. elim c [
          | inl first ↦ let x = front.0 first in all.1 (x.0, Contains-append_left ts us x.0 x.1, x.2)
          | inr second ↦ let x = back.0 second in all.1 (x.0, Contains-append_right ts us x.0 x.1, x.2)
        ]),
      ))

-- the union of some tables and one more
module _ (ts : List (List Route)) (t : List Route) (h : AreTables (ts ++ t ∷ [])) where
  one_table : IsTable t
  one_table = All-contains IsTable (ts ++ t ∷ []) t h.each (Contains-append_right ts (t ∷ []) t (Contains-head t []))

  pub more_tables : AreTables (two (union_of ts) t)
  more_tables = subst (λ u. AreTables (two (union_of ts) u)) (union_of_one t one_table) (union_tables ts (t ∷ []) h)

  pub union_more : union_of (ts ++ t ∷ []) ≡ union_of (two (union_of ts) t)
  union_more = union_append ts (t ∷ []) h ∙ ap (λ u. union_of (two (union_of ts) u)) (union_of_one t one_table)

-- The routes from a position in dump order on, in terms of a map: those of the pairs from the position's prefix on. For
-- that prefix itself, only the offers that don't outrank the position's own count.
use Rattle.std.proofs.Common.{◌≡◌, ℕ, zero, suc, ◌≤◌, Bool, true, false, not, List, [], ◌∷◌, ◌++◌, length, map, drop, refl, ap, sym, subst, ◌∙◌, arith}
use Rattle.std.proofs.Common.{inl, inr}
use Rattle.std.specs.List.{filter, AllWithin, Contains}
use Rattle.std.proofs.lemmas.Bool.{cases_Bool, both_ways, false_from_ne_true, not_from_false, not-true}
use Rattle.std.proofs.lemmas.List.Elements.{filter-append}
use Rattle.rt_cidr.specs.declared.prefixes.Prefix.{Prefix}
use Rattle.rt_trie.specs.Map.{before, IsBeforeAll, IsOrdered}
use Rattle.rt_trie.specs.FromPrefix.{from_prefix}
use Rattle.rt_trie.proofs.PrefixOrder.{lower_rank, rank_of_before, rank_of_not_before}
use Rattle.rt_rib.specs.declared.routes.Route.{Route}
use Rattle.rt_rib.specs.declared.offers.Offer.{Offer}
use Rattle.rt_rib.specs.Maps.{Map, outranks, route_by, routes_of}
use Rattle.rt_rib.specs.Table.{precedes}
use Rattle.rt_rib.specs.Order.{below_then, offer_of}
use Rattle.rt_rib.specs.Places.{from_place}
use Rattle.rt_rib.specs.inside.Offers.{IsInsertionIndex}
use Rattle.rt_rib.proofs.Lists.{filter-all}
use Rattle.rt_rib.proofs.MapRoutes.{precedes-by_prefix}
use Rattle.rt_rib.proofs.Order.{below_then-true, below_then-same, precedes-itself, precedes-trans}
use Rattle.rt_rib.proofs.Sets.{Contains-head, filter-from}

-- elements satisfy a test before an index, and fail it from there on
filter_drop : {X : Type 0} (test : X → Bool) (xs : List X) (k : ℕ) → k ≤ length xs → AllWithin (λ x. test x ≡ true) xs 0 k
    → AllWithin (λ x. test x ≡ false) xs k (length xs) → filter (λ x. not (test x)) xs ≡ drop k xs
filter_drop test [] zero l front back = refl
filter_drop test [] (suc k) l front back = absurd (omega arith)
filter_drop test (x ∷ xs) zero l front back =
    filter-all (λ z. not (test z)) (x ∷ xs) (λ i d m. not_from_false (test _) (back i d (omega arith) m))
filter_drop test (x ∷ xs) (suc k) l front back =
    rw (front 0 x (omega arith) (omega arith)) (filter_drop test xs k (omega arith)
    (λ i d m n. front (suc i) d (omega arith) (omega arith)) (λ i d m n. back (suc i) d (omega arith) (omega arith)))

-- a route to a later prefix doesn't precede
later-stays : (r s : Route) → before r.prefix s.prefix ≡ true → precedes s r ≡ false
later-stays r s e =
    false_from_ne_true (precedes s r) (λ back.
    both_ways (precedes r r) (precedes-itself r) (precedes-trans r s r (precedes-by_prefix r s e) back))

-- among routes to the same prefix, one precedes another if and only if its offer outranks the other's
by_offer : (p : Prefix) (o : Offer) (r : Route) → p.base ≡ r.prefix.base → p.len ≡ r.prefix.len → precedes (route_by p o) r ≡ outranks o (offer_of r)
by_offer p o r b l =
    let better = outranks o (offer_of r) in
    elim (cases_Bool better) [
      | inl first ↦
          below_then-same p.base r.prefix.base (below_then p.len r.prefix.len better) b (below_then-same p.len r.prefix.len better l first)
          ∙ sym first
      | inr behind ↦
          false_from_ne_true (precedes (route_by p o) r) (λ e.
          elim (below_then-true p.base r.prefix.base (below_then p.len r.prefix.len better) e) [
            | inl less ↦ absurd (omega arith)
            | inr base ↦ elim (below_then-true p.len r.prefix.len better base.1) [
              | inl less ↦ absurd (omega arith)
              | inr also ↦ both_ways better behind also.1
            ]
          ]) ∙ sym behind
    ]

-- if q isn't before p, a prefix after q is after p
after-both : (p q x : Prefix) → before q p ≡ false → before q x ≡ true → before p x ≡ true
after-both p q x late e = lower_rank p x (omega (arith, rank_of_not_before q p late, rank_of_before q x e))

-- if neither of two prefixes is before the other, they have the same base and length
pub even-parts : (p q : Prefix) → before p q ≡ false → before q p ≡ false → (p.base ≡ q.base) × (p.len ≡ q.len)
even-parts p q e f =
    let s = p.is_prefix.short in
    let t = q.is_prefix.short in
    let g = rank_of_not_before p q e in
    let h = rank_of_not_before q p f in
    (omega arith, omega arith)

module _ (r : Route) where
  routes-early : (p : Prefix) (offers : List Offer) → before p r.prefix ≡ true → from_place r (map (route_by p) offers) ≡ []
  routes-early p [] e = refl
  routes-early p (o ∷ offers) e = rw (precedes-by_prefix (route_by p o) r e) (routes-early p offers e)

  pub routes-late : (p : Prefix) (offers : List Offer) → before r.prefix p ≡ true → from_place r (map (route_by p) offers) ≡ map (route_by p) offers
  routes-late p [] e = refl
  routes-late p (o ∷ offers) e = rw (later-stays r (route_by p o) e) (ap (λ l. route_by p o ∷ l) (routes-late p offers e))

  routes-here : (p : Prefix) (offers : List Offer) → p.base ≡ r.prefix.base → p.len ≡ r.prefix.len
      → from_place r (map (route_by p) offers) ≡ map (route_by p) (filter (λ o. not (outranks o (offer_of r))) offers)
  routes-here p [] b l = refl
  routes-here p (o ∷ offers) b l = elim (cases_Bool (outranks o (offer_of r))) [
    | inl first ↦ rw (by_offer p o r b l ∙ first, first) (routes-here p offers b l)
    | inr behind ↦ rw (by_offer p o r b l ∙ behind, behind) (ap (λ z. route_by p o ∷ z) (routes-here p offers b l))
  ]

  -- for the position's own prefix, they are the routes of the offers from the index of its own on
  pub routes_dropped : (p : Prefix) (offers : List Offer) (k : ℕ) → p.base ≡ r.prefix.base → p.len ≡ r.prefix.len → IsInsertionIndex (offer_of r) offers k
      → map (route_by p) (drop k offers) ≡ from_place r (map (route_by p) offers)
  routes_dropped p offers k b l at =
      ap (map (route_by p)) (sym (filter_drop (λ o. outranks o (offer_of r)) offers k at.within at.before at.behind))
      ∙ sym (routes-here p offers b l)

  from-append : (xs ys : List Route) → from_place r (xs ++ ys) ≡ from_place r xs ++ from_place r ys
  from-append xs ys = filter-append (λ s. not (precedes s r)) xs ys

  -- the pairs from the position's prefix on have all of them
  prefix_has : (m : Map) → from_place r (routes_of m) ≡ from_place r (routes_of (from_prefix m r.prefix))
  prefix_has [] = refl
  prefix_has ((p, offers) ∷ rest) =
      let here = map (route_by p) offers in
      elim (cases_Bool (before p r.prefix)) [
        | inl early ↦ rw early (from-append here (routes_of rest) ∙ ap (λ l. l ++ from_place r (routes_of rest)) (routes-early p offers early)
            ∙ prefix_has rest)
        | inr late ↦ rw late (from-append here (routes_of rest) ∙ ap (λ l. from_place r here ++ l) (prefix_has rest)
            ∙ sym (from-append here (routes_of (from_prefix rest r.prefix))))
      ]

  all-late : (p : Prefix) (rest : Map) → before p r.prefix ≡ false → IsBeforeAll p rest → from_place r (routes_of rest) ≡ routes_of rest
  all-late p [] late h = refl
  all-late p ((q, offers) ∷ rest) late h =
      let here = map (route_by q) offers in
      from-append here (routes_of rest) ∙ ap (λ l. l ++ from_place r (routes_of rest)) (routes-late q offers (after-both r.prefix p q late h.0))
      ∙ ap (λ l. here ++ l) (all-late p rest late h.1)

  -- the first of these pairs isn't before the prefix
  pub first_late : (m : Map) (p : Prefix) (offers : List Offer) (rest : Map) → from_prefix m r.prefix ≡ (p, offers) ∷ rest → before p r.prefix ≡ false
  first_late m p offers rest e =
      not-true (before p r.prefix) (filter-from (λ x. not (before x.0 r.prefix)) m (p, offers)
      (subst (λ l. Contains l (p, offers)) (sym e) (Contains-head (p, offers) rest))).1

  -- they are the first pair's from the position on, and all of the pairs after it
  pub from_first : (m : Map) (p : Prefix) (offers : List Offer) (rest : Map) → from_prefix m r.prefix ≡ (p, offers) ∷ rest → IsOrdered (from_prefix m r.prefix)
      → from_place r (routes_of m) ≡ from_place r (map (route_by p) offers) ++ routes_of rest
  from_first m p offers rest e order =
      let ordered : IsOrdered ((p, offers) ∷ rest) = subst (λ l. IsOrdered l) e order in
      prefix_has m ∙ ap (λ l. from_place r (routes_of l)) e ∙ from-append (map (route_by p) offers) (routes_of rest)
      ∙ ap (λ l. from_place r (map (route_by p) offers) ++ l) (all-late p rest (first_late m p offers rest e) ordered.0)

  -- if there are no such pairs, there are no such routes
  pub from_none : (m : Map) → from_prefix m r.prefix ≡ [] → from_place r (routes_of m) ≡ []
  from_none m e = prefix_has m ∙ ap (λ l. from_place r (routes_of l)) e

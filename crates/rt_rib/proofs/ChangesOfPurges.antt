-- What a purge changes: at each prefix whose first offer is the feed's, the second one follows.
use Rattle.std.proofs.Common.{◌≡◌, ◌≢◌, ℕ, ◌<◌, ◌≤◌, Bool, true, false, not, eqb, inl, inr, List, [], ◌∷◌, length, get_or, Option, Some, None, refl, ap, ◌∙◌, sym, subst, arith, length-append}
use Rattle.std.specs.Prelude.{slice_get}
use Rattle.std.specs.Option.{option_map}
use Rattle.std.specs.List.{All, AllPairs, Contains, filter}
use Rattle.std.proofs.lemmas.Bool.{cases_Bool, both_ways, cond-true, cond-false, not_from_false, eq-eqb}
use Rattle.std.proofs.lemmas.List.Elements.{Contains-append_left, Contains-append_right, Contains-append_cases}
use Rattle.std.proofs.lemmas.List.Kept.{AllPairs-filter}
use Rattle.rt_cidr.specs.declared.prefixes.Prefix.{Prefix}
use Rattle.rt_cidr.specs.Prefix.{same_prefix}
use Rattle.rt_trie.specs.Map.{before, get, IsOrdered}
use Rattle.rt_trie.proofs.Promised.{pairs-found}
use Rattle.rt_rib.specs.declared.routes.Route.{Route}
use Rattle.rt_rib.specs.declared.offers.Offer.{Offer}
use Rattle.rt_rib.specs.declared.changes.BestChange.{BestChange}
use Rattle.rt_rib.specs.LookUp.{best}
use Rattle.rt_rib.specs.Maps.{outranks, is_from, IsRanked, Map, route_by, routes_of, IsMap}
use Rattle.rt_rib.specs.Table.{purge}
use Rattle.rt_rib.specs.Changes.{best_to, IsBestChange, AreBestChanges}
use Rattle.rt_rib.specs.inside.Changes.{purge_change, purge_changes}
use Rattle.rt_rib.specs.inside.Maps.{offers_in, offers_at}
use Rattle.rt_rib.specs.inside.Offers.{without}
use Rattle.rt_rib.proofs.BestTo.{best_ranked, ranked_at, best_at_map}
use Rattle.rt_rib.proofs.Lists.{AllPairs-append}
use Rattle.rt_rib.proofs.MapRoutes.{All-from_contained, before-each}
use Rattle.rt_rib.proofs.OfferLists.{without-is}
use Rattle.rt_rib.proofs.Purges.{purge-routes}
use Rattle.rt_rib.proofs.Selections.{routes_at}
use Rattle.rt_rib.proofs.Sets.{Contains-head, Contains-tail, Contains-cases, Contains-none}

-- two filters in either order
filter-swap : {X : Type 0} (f g : X → Bool) (xs : List X) → filter f (filter g xs) ≡ filter g (filter f xs)
filter-swap f g [] = refl
filter-swap f g (x ∷ xs) = elim (cases_Bool (f x)) [
  | inl one ↦ elim (cases_Bool (g x)) [
    | inl both ↦ rw (one, both) (rw one (ap (λ l. x ∷ l) (filter-swap f g xs)))
    | inr not_two ↦ rw (one, not_two) (filter-swap f g xs)
  ]
  | inr not_one ↦ elim (cases_Bool (g x)) [
    | inl two ↦ rw (two, not_one) (filter-swap f g xs)
    | inr neither ↦ rw (not_one, neither) (filter-swap f g xs)
  ]
]

module _ (feed : ℕ) where
  -- the best route of a list of offers
  abbrev top : Prefix → List Offer → Option Route
  top p offers = option_map (route_by p) (slice_get offers 0)

  -- the best route to a prefix after the purge is that of the first offer of another feed
  pub best_purged : (m : Map) → IsMap m → (p : Prefix) → best_to p (purge feed (routes_of m)) ≡ top p (without feed (offers_at m p))
  unfolding best_to
  best_purged m h p =
      let others = λ (r : Route). not (eqb r.feed feed) in
      let rank = ranked_at m h p in
      ap best (filter-swap (λ (r : Route). same_prefix r.prefix p) others (routes_of m) ∙ ap (filter others) (routes_at p m h.ordered)
      ∙ purge-routes feed p (offers_at m p))
      ∙ best_ranked p (without feed (offers_at m p)) (record {
        ordered = AllPairs-filter (λ a b. outranks a b ≡ true) (λ o. not (is_from feed o)) (offers_at m p) rank.ordered;
        single = AllPairs-filter (λ a b. is_from b.feed a ≡ false) (λ o. not (is_from feed o)) (offers_at m p) rank.single;
      })

  -- what a purge changes at a prefix with these offers
  record ChangesAt (p : Prefix) (offers : List Offer) (c : BestChange) : Type 0 where
    prefix : c.prefix ≡ p
    before : c.before ≡ top p offers
    after : c.after ≡ top p (without feed offers)

  -- if the first offer is the feed's, the second is the first of the others
  second : (o : Offer) (rest : List Offer) → IsRanked (o ∷ rest) → is_from feed o ≡ true → without feed (o ∷ rest) ≡ rest
  second o rest h mine = without-is feed (o ∷ rest) 0 o h.single (omega arith) mine

  -- if it isn't, it stays the first
  stays : (p : Prefix) (o : Offer) (rest : List Offer) → is_from feed o ≡ false → top p (without feed (o ∷ rest)) ≡ Some (route_by p o)
  stays p o rest other =
      ap (top p) (cond-true (not (is_from feed o)) (o ∷ without feed rest) (without feed rest) (not_from_false (is_from feed o) other))

  -- the best route of a list of offers isn't that of the others, since they are of other feeds
  differs : (p : Prefix) (o : Offer) (rest : List Offer) → IsRanked (o ∷ rest) → Some (route_by p o) ≢ top p rest
  differs p o [] h e = cc
  differs p o (next ∷ rest) h e =
      let same : o.feed ≡ next.feed = one_feed (route_by p o) (route_by p next) e in
      both_ways (is_from next.feed o) (h.single 0 1 o (omega arith) (omega arith)) (eq-eqb o.feed next.feed same) where
        one_feed : (r s : Route) → Some r ≡ Some s → r.feed ≡ s.feed
        one_feed r s same = cc

  -- the list has that change, and no other
  change_from : (p : Prefix) (offers : List Offer) (c : BestChange) → IsRanked offers → Contains (purge_change feed p offers) c
      → ChangesAt p offers c × (c.before ≢ c.after)
  change_from p [] c h there = absurd (Contains-none c there)
  change_from p (o ∷ rest) c h there =
      let change : BestChange = record { prefix = p; before = Some (route_by p o); after = top p rest } in
      elim (cases_Bool (is_from feed o)) [
        | inl mine ↦
            let in_one : Contains (change ∷ []) c = subst (λ l. Contains l c) (cond-true (is_from feed o) (change ∷ []) [] mine) there in
            elim (Contains-cases change [] c in_one) [
              | inl here ↦ subst (λ x. ChangesAt p (o ∷ rest) x × (x.before ≢ x.after)) here (
                record { prefix = refl; before = refl; after = ap (top p) (sym (second o rest h mine)) },
                differs p o rest h,
              )
              | inr none ↦ absurd (Contains-none c none)
            ]
        | inr other ↦
            absurd (Contains-none c (subst (λ l. Contains l c) (cond-false (is_from feed o) (change ∷ []) [] other) there))
      ]

  change_to : (p : Prefix) (offers : List Offer) (c : BestChange) → IsRanked offers → ChangesAt p offers c → c.before ≢ c.after
      → Contains (purge_change feed p offers) c
  change_to p [] c h is differ = absurd (differ (is.before ∙ sym is.after))
  change_to p (o ∷ rest) c h is differ =
      let change : BestChange = record { prefix = p; before = Some (route_by p o); after = top p rest } in
      elim (cases_Bool (is_from feed o)) [
        | inl mine ↦
            let after : c.after ≡ top p rest = is.after ∙ ap (top p) (second o rest h mine) in
            let same : change ≡ c = λ i. record { prefix = sym is.prefix i; before = sym is.before i; after = sym after i } in
            subst (λ l. Contains l c) (sym (cond-true (is_from feed o) (change ∷ []) [] mine))
            (subst (λ x. Contains (change ∷ []) x) same (Contains-head change []))
        | inr other ↦ absurd (differ (is.before ∙ sym (stays p o rest other) ∙ sym is.after))
      ]

  -- each change of the map is one at a prefix that it stores
  stored_from : (m : Map) (c : BestChange) → ((p : Prefix) (offers : List Offer) → Contains m (p, offers) → IsRanked offers)
      → Contains (purge_changes feed m) c → (offers : List Offer) × Contains m (c.prefix, offers) × Contains (purge_change feed c.prefix offers) c
  stored_from [] c each there = absurd (Contains-none c there)
  stored_from ((p, offers) ∷ rest) c each there =
      elim (Contains-append_cases (purge_change feed p offers) (purge_changes feed rest) c there) [
        | inl here ↦
            let is = (change_from p offers c (each p offers (Contains-head (p, offers) rest)) here).0 in (
              offers,
              subst (λ q. Contains ((p, offers) ∷ rest) (q, offers)) (sym is.prefix) (Contains-head (p, offers) rest),
              subst (λ q. Contains (purge_change feed q offers) c) (sym is.prefix) here,
            )
        | inr later ↦
            let x = stored_from rest c (λ q os d. each q os (Contains-tail (p, offers) rest (q, os) d)) later in
            (x.0, Contains-tail (p, offers) rest (c.prefix, x.0) x.1, x.2)
      ]

  stored_to : (m : Map) (p : Prefix) (offers : List Offer) (c : BestChange) → Contains m (p, offers) → Contains (purge_change feed p offers) c
      → Contains (purge_changes feed m) c
  stored_to [] p offers c d here = absurd (Contains-none (p, offers) d)
  stored_to ((q, others) ∷ rest) p offers c d here = elim (Contains-cases (q, others) rest (p, offers) d) [
    | inl same ↦
        let P : Prefix × List Offer → Type 0 = λ z. Contains (purge_change feed z.0 z.1) c in
        Contains-append_left (purge_change feed q others) (purge_changes feed rest) c (subst P (sym same) here)
    | inr later ↦ Contains-append_right (purge_change feed q others) (purge_changes feed rest) c (stored_to rest p offers c later here)
  ]

  -- a prefix has at most one change
  one_at : (p : Prefix) (offers : List Offer) → AllPairs (λ c d. before c.prefix d.prefix ≡ true) (purge_change feed p offers)
  one_at p [] = λ i j d l m. absurd (omega arith)
  one_at p (o ∷ rest) = elim (cases_Bool (is_from feed o)) [
    | inl mine ↦ rw mine (λ i j d l m. absurd (omega arith))
    | inr other ↦ rw other (λ i j d l m. absurd (omega arith))
  ]

  -- the changes are in the order of the map
  in_order : (m : Map) → IsOrdered m → ((p : Prefix) (offers : List Offer) → Contains m (p, offers) → IsRanked offers)
      → AllPairs (λ c d. before c.prefix d.prefix ≡ true) (purge_changes feed m)
  in_order [] order each = λ i j d l m. absurd (omega arith)
  in_order ((p, offers) ∷ rest) order each =
      let R : BestChange → BestChange → Type 0 = λ c d. before c.prefix d.prefix ≡ true in
      let later : (q : Prefix) (os : List Offer) → Contains rest (q, os) → IsRanked os = λ q os d. each q os (Contains-tail (p, offers) rest (q, os) d) in
      AllPairs-append R (purge_change feed p offers) (purge_changes feed rest) (one_at p offers) (in_order rest order.1 later)
      (All-from_contained (λ c. All (R c) (purge_changes feed rest)) (purge_change feed p offers) (λ c here.
      let own = (change_from p offers c (each p offers (Contains-head (p, offers) rest)) here).0 in
      All-from_contained (R c) (purge_changes feed rest) (λ d there.
      let x = stored_from rest d later there in
      subst (λ q. before q d.prefix ≡ true) (sym own.prefix) (before-each p rest d.prefix x.0 order.0 x.1))))

  -- these are the changes of the purge
  pub purge_changes_are : (m : Map) → IsMap m → AreBestChanges (routes_of m) (purge feed (routes_of m)) (purge_changes feed m)
  purge_changes_are m h =
      let each : (p : Prefix) (offers : List Offer) → Contains m (p, offers) → IsRanked offers =
      λ p offers d. (h.each p offers ((pairs-found m p offers h.ordered).0 d)).ranked in
      record {
        exactly = λ c. (
          (λ there.
              let x = stored_from m c each there in
              let at : offers_at m c.prefix ≡ x.0 = ap offers_in ((pairs-found m c.prefix x.0 h.ordered).0 x.1) in
              let is = change_from c.prefix x.0 c (each c.prefix x.0 x.1) x.2 in
              record {
                before = is.0.before ∙ ap (top c.prefix) (sym at) ∙ sym (best_at_map m h c.prefix);
                after = is.0.after ∙ ap (λ l. top c.prefix (without feed l)) (sym at) ∙ sym (best_purged m h c.prefix);
                differ = is.1;
              }),
          (λ is. by_value c is (get m c.prefix) refl),
        );
        ordered = in_order m h.ordered each;
      } where
        -- by what is stored at its prefix
        by_value : (c : BestChange) → IsBestChange (routes_of m) (purge feed (routes_of m)) c → (o : Option (List Offer)) → get m c.prefix ≡ o
            → Contains (purge_changes feed m) c
        by_value c is found e =
            let first : c.before ≡ top c.prefix (offers_in found) =
            is.before ∙ best_at_map m h c.prefix ∙ ap (λ o. top c.prefix (offers_in o)) e in
            let last : c.after ≡ top c.prefix (without feed (offers_in found)) =
            is.after ∙ best_purged m h c.prefix ∙ ap (λ o. top c.prefix (without feed (offers_in o))) e in
            by_case c is.differ found e first last where
              by_case : (c : BestChange) → c.before ≢ c.after → (o : Option (List Offer)) → get m c.prefix ≡ o → c.before ≡ top c.prefix (offers_in o)
                  → c.after ≡ top c.prefix (without feed (offers_in o)) → Contains (purge_changes feed m) c
              by_case c differ None e first last = absurd (differ (first ∙ sym last))
              by_case c differ (Some offers) e first last =
                  stored_to m c.prefix offers c ((pairs-found m c.prefix offers h.ordered).1 e)
                  (change_to c.prefix offers c (h.each c.prefix offers e).ranked (record { prefix = refl; before = first; after = last }) differ)

  -- at most one for each prefix
  few_at : (p : Prefix) (offers : List Offer) → length (purge_change feed p offers) ≤ 1
  few_at p [] = omega arith
  few_at p (o ∷ rest) = elim (cases_Bool (is_from feed o)) [ inl mine ↦ rw mine (omega arith) | inr other ↦ rw other (omega arith) ]

  pub purge_few : (m : Map) → length (purge_changes feed m) ≤ length m
  purge_few [] = omega arith
  purge_few ((p, offers) ∷ rest) =
      omega (arith, length-append (purge_change feed p offers) (purge_changes feed rest), few_at p offers, purge_few rest)

-- the change at a prefix, as the code finds it
module _ (feed : ℕ) (p : Prefix) where
  pub change_other : (offers : List Offer) (d : Offer) → 0 < length offers → is_from feed (get_or offers 0 d) ≡ false → [] ≡ purge_change feed p offers
  change_other [] d some other = absurd (omega arith)
  change_other (o ∷ rest) d some other = rw other refl

  pub change_own : (offers : List Offer) (d : Offer) (after : Option Route) → 0 < length offers → is_from feed (get_or offers 0 d) ≡ true
      → after ≡ option_map (route_by p) (slice_get offers 1)
      → record { prefix = p; before = Some (route_by p (get_or offers 0 d)); after = after } ∷ [] ≡ purge_change feed p offers
  change_own [] d after some own is = absurd (omega arith)
  change_own (o ∷ rest) d after some own is =
      rw own (ap (λ (x : Option Route). record { prefix = p; before = Some (route_by p o); after = x } ∷ []) is)

-- The routes of a map after an offer for a prefix was inserted, replaced or removed.
use Rattle.std.proofs.Common.{◌≡◌, ℕ, Bool, true, false, cond, ◌⊎◌, ◌↔◌, inl, inr, List, [], ◌∷◌, Some, None, refl, ap, ◌∙◌, sym, subst, arith}
use Rattle.std.specs.Prelude.{Result, Ok, Err, OnErr}
use Rattle.std.specs.List.{Contains, list_any}
use Rattle.std.proofs.lemmas.Bool.{both_ways, cond-true, cond-false, false_from_ne_true, eqb-true, eq-eqb}
use Rattle.rt_cidr.specs.declared.prefixes.Prefix.{Prefix}
use Rattle.rt_cidr.specs.Prefix.{same_prefix}
use Rattle.rt_cidr.proofs.Promised.{prefix_by_parts}
use Rattle.rt_trie.specs.Map.{get, put, erase}
use Rattle.rt_trie.proofs.Promised.{get-put, get-erase, ordered-put, ordered-erase, one-list}
use Rattle.rt_rib.specs.declared.routes.Route.{Route}
use Rattle.rt_rib.specs.declared.offers.Offer.{Offer}
use Rattle.rt_rib.specs.Maps.{is_from, IsOffers, Map, route_by, routes_of, IsMap}
use Rattle.rt_rib.specs.Order.{offer_of}
use Rattle.rt_rib.specs.inside.Offers.{HasGained, HasSwapped}
use Rattle.rt_rib.specs.Table.{is_of, has, put_in, take_out}
use Rattle.rt_rib.specs.inside.Maps.{offers_in, offers_at, HasRoute}
use Rattle.rt_rib.proofs.Lists.{list_any-at}
use Rattle.rt_rib.proofs.OfferLists.{HasLost, IsRanked-one}
use Rattle.rt_rib.proofs.Order.{is_of-parts, is_of-from}
use Rattle.rt_rib.proofs.Sets.{Contains-head, Contains-cases, Contains-none, put_in_adds, take_out_leaves_others}
use Rattle.rt_rib.proofs.Tables.{IsTable-put_in, IsTable-take_out, has-take_out}
use Rattle.rt_rib.proofs.MapRoutes.{one_or_other, same_prefix-itself, there_in, there_out, table_is, IsTable-map, has-is}

-- the new map has these offers at the prefix, and those of the old map at every other prefix
abbrev pub IsWith : Map → Map → Prefix → List Offer → Type 0
IsWith m n p offers = (q : Prefix) → offers_at n q ≡ cond (same_prefix p q) offers (offers_at m q)

module _ (m : Map) (h : IsMap m) (p : Prefix) where
  -- the offers at a prefix after offers were stored
  pub put_with : (offers : List Offer) → IsWith m (put m p offers) p offers
  put_with offers q = ap offers_in (get-put m p offers q) ∙ push (same_prefix p q) where
    -- either case: the given offers or the old ones
    push : (b : Bool) → offers_in (cond b (Some offers) (get m q)) ≡ cond b offers (offers_at m q)
    push true = refl
    push false = refl

  -- the offers at a prefix after offers were removed
  pub erase_with : IsWith m (erase m p) p []
  erase_with q = ap offers_in (get-erase m p q h.ordered) ∙ push (same_prefix p q) where
    -- either case: no offers or the old ones
    push : (b : Bool) → offers_in (cond b None (get m q)) ≡ cond b [] (offers_at m q)
    push true = refl
    push false = refl

  -- storing valid offers gives a map
  pub IsMap-put : (offers : List Offer) → IsOffers offers → IsMap (put m p offers)
  IsMap-put offers lawful = record {
    ordered = ordered-put m p offers h.ordered;
    each = λ q os e. by_test (same_prefix p q) q os (sym (get-put m p offers q) ∙ e);
  } where
    -- by whether it is their prefix
    by_test : (b : Bool) (q : Prefix) (os : List Offer) → cond b (Some offers) (get m q) ≡ Some os → IsOffers os
    by_test true q os e = let same : offers ≡ os = cc in subst IsOffers same lawful
    by_test false q os e = h.each q os e

  -- removing a prefix gives a map
  pub IsMap-erase : IsMap (erase m p)
  IsMap-erase = record {
    ordered = ordered-erase m p h.ordered;
    each = λ q os e. by_test (same_prefix p q) q os (sym (get-erase m p q h.ordered) ∙ e);
  } where
    -- by whether it is that prefix
    by_test : (b : Bool) (q : Prefix) (os : List Offer) → cond b None (get m q) ≡ Some os → IsOffers os
    by_test true q os e = cc
    by_test false q os e = h.each q os e

  -- storing the same offers again gives the same map
  pub put_same : (offers : List Offer) → Some offers ≡ get m p → put m p offers ≡ m
  put_same offers e =
      one-list (put m p offers) m (ordered-put m p offers h.ordered) h.ordered (λ q. get-put m p offers q ∙ at q) where
        -- at each prefix
        at : (q : Prefix) → cond (same_prefix p q) (Some offers) (get m q) ≡ get m q
        at q = elim (one_or_other p q) [
          | inl here ↦
              let one : same_prefix p q ≡ true = subst (λ x. same_prefix p x ≡ true) here (same_prefix-itself p) in
              cond-true (same_prefix p q) (Some offers) (get m q) one ∙ e ∙ ap (get m) here
          | inr other ↦ cond-false (same_prefix p q) (Some offers) (get m q) other
        ]

module _ (m n : Map) (p : Prefix) (offers : List Offer) (at : IsWith m n p offers) where
  -- the offers of the new map at the prefix
  pub at_it : (q : Prefix) → p ≡ q → offers_at n q ≡ offers
  at_it q here =
      let one : same_prefix p q ≡ true = subst (λ x. same_prefix p x ≡ true) here (same_prefix-itself p) in
      at q ∙ cond-true (same_prefix p q) offers (offers_at m q) one

  -- the offers of the new map at other prefixes
  elsewhere : (q : Prefix) → same_prefix p q ≡ false → offers_at n q ≡ offers_at m q
  elsewhere q other = at q ∙ cond-false (same_prefix p q) offers (offers_at m q) other

  -- the route of an offer for the prefix isn't to another prefix
  not_other : (o : Offer) (x : Route) → same_prefix p x.prefix ≡ false → route_by p o ≡ x → ⊥
  not_other o x other e = both_ways (same_prefix p x.prefix) other (subst (λ z. same_prefix p z.prefix ≡ true) e (same_prefix-itself p))

  -- a route to another prefix isn't any feed's route to this one
  pub apart : (feed : ℕ) (x : Route) → same_prefix p x.prefix ≡ false → is_of feed p x ≡ false
  apart feed x other =
      false_from_ne_true (is_of feed p x) (λ mine.
      let parts = is_of-parts feed p x mine in
      let one = prefix_by_parts p x.prefix (sym parts.1) (sym parts.2) in
      both_ways (same_prefix p x.prefix) other (subst (λ q. same_prefix p q ≡ true) one (same_prefix-itself p)))

  -- a route to this prefix isn't the feed's if its offer isn't
  pub mine : (feed : ℕ) (x : Route) → p ≡ x.prefix → is_from feed (offer_of x) ≡ false → is_of feed p x ≡ false
  mine feed x here differs =
      false_from_ne_true (is_of feed p x) (λ yes. both_ways (is_from feed (offer_of x)) differs (eq-eqb x.feed feed (is_of-parts feed p x yes).0))

  -- the converse
  pub not_mine : (feed : ℕ) (x : Route) → p ≡ x.prefix → is_of feed p x ≡ false → is_from feed (offer_of x) ≡ false
  not_mine feed x here differs =
      false_from_ne_true (is_from feed (offer_of x)) (λ yes.
      both_ways (is_of feed p x) differs (is_of-from feed p x (eqb-true x.feed feed yes) (ap (λ q. q.base) (sym here)) (ap (λ q. q.len) (sym here))))

  -- one more offer is one more route
  pub added : (o : Offer) → HasGained (offers_at m p) offers o → (x : Route) → HasRoute n x ↔ (HasRoute m x ⊎ (route_by p o ≡ x))
  added o gain x = elim (one_or_other p x.prefix) [
    | inl here ↦ (
      (λ c. elim ((gain (offer_of x)).0 (subst (λ l. Contains l (offer_of x)) (at_it x.prefix here) c)) [
        | inl old ↦ inl (subst (λ q. Contains (offers_at m q) (offer_of x)) here old)
        | inr new ↦ inr (ap (λ q. route_by q o) here ∙ ap (route_by x.prefix) new)
      ]),
      (λ c. subst (λ l. Contains l (offer_of x)) (sym (at_it x.prefix here)) ((gain (offer_of x)).1 (elim c [
        | inl old ↦ inl (subst (λ q. Contains (offers_at m q) (offer_of x)) (sym here) old)
        | inr new ↦ inr (ap offer_of new)
      ]))),
    )
    | inr other ↦ (
      (λ c. inl (subst (λ l. Contains l (offer_of x)) (elsewhere x.prefix other) c)),
      (λ c. elim c [
        | inl old ↦ subst (λ l. Contains l (offer_of x)) (sym (elsewhere x.prefix other)) old
        | inr new ↦ absurd (not_other o x other new)
      ]),
    )
  ]

  -- removing a feed's offer removes its route
  pub taken : (feed : ℕ) → HasLost (offers_at m p) offers feed → (x : Route) → HasRoute n x ↔ (HasRoute m x × (is_of feed p x ≡ false))
  taken feed loss x = elim (one_or_other p x.prefix) [
    | inl here ↦ (
      (λ c.
          let both = (loss (offer_of x)).0 (subst (λ l. Contains l (offer_of x)) (at_it x.prefix here) c) in
          (subst (λ q. Contains (offers_at m q) (offer_of x)) here both.0, mine feed x here both.1)),
      (λ c. subst (λ l. Contains l (offer_of x)) (sym (at_it x.prefix here)) ((loss (offer_of x)).1
          (subst (λ q. Contains (offers_at m q) (offer_of x)) (sym here) c.0, not_mine feed x here c.1))),
    )
    | inr other ↦ (
      (λ c. (subst (λ l. Contains l (offer_of x)) (elsewhere x.prefix other) c, apart feed x other)),
      (λ c. subst (λ l. Contains l (offer_of x)) (sym (elsewhere x.prefix other)) c.0),
    )
  ]

  -- replacing a feed's offer replaces its route
  pub swapped : (o : Offer) → HasSwapped (offers_at m p) offers o true → (x : Route)
      → HasRoute n x ↔ ((HasRoute m x × (is_of o.feed p x ≡ false)) ⊎ (route_by p o ≡ x))
  swapped o swap x = elim (one_or_other p x.prefix) [
    | inl here ↦ (
      (λ c. elim ((swap (offer_of x)).0 (subst (λ l. Contains l (offer_of x)) (at_it x.prefix here) c)) [
        | inl old ↦ inl (subst (λ q. Contains (offers_at m q) (offer_of x)) here old.0, mine o.feed x here old.1)
        | inr new ↦ inr (ap (λ q. route_by q o) here ∙ ap (route_by x.prefix) new)
      ]),
      (λ c. subst (λ l. Contains l (offer_of x)) (sym (at_it x.prefix here)) ((swap (offer_of x)).1 (elim c [
        | inl old ↦ inl (subst (λ q. Contains (offers_at m q) (offer_of x)) (sym here) old.0, not_mine o.feed x here old.1)
        | inr new ↦ inr (ap offer_of new)
      ]))),
    )
    | inr other ↦ (
      (λ c. inl (subst (λ l. Contains l (offer_of x)) (elsewhere x.prefix other) c, apart o.feed x other)),
      (λ c. elim c [
        | inl old ↦ subst (λ l. Contains l (offer_of x)) (sym (elsewhere x.prefix other)) old.0
        | inr new ↦ absurd (not_other o x other new)
      ]),
    )
  ]

module _ (m n : Map) (h : IsMap m) (k : IsMap n) (p : Prefix) (offers : List Offer) (at : IsWith m n p offers) where
  -- the routes of the map are those that it holds
  both : (x : Route) → HasRoute m x ↔ Contains (routes_of m) x
  both x = (there_out m x h.ordered, there_in m x h.ordered)

  -- hence the routes are the old ones plus that route
  pub routes_added : (o : Offer) → has o.feed p (routes_of m) ≡ false → HasGained (offers_at m p) offers o → routes_of n ≡ put_in (route_by p o) (routes_of m)
  routes_added o fresh gain =
      table_is n k (put_in (route_by p o) (routes_of m)) (IsTable-put_in (route_by p o) (routes_of m) fresh (IsTable-map m h)) (λ x.
      let step = added m n p offers at o gain x in
      let put = put_in_adds (route_by p o) x (routes_of m) in (
        (λ c. put.1 (elim (step.0 c) [ inl old ↦ inl ((both x).0 old) | inr new ↦ inr new ])),
        (λ c. step.1 (elim (put.0 c) [ inl old ↦ inl ((both x).1 old) | inr new ↦ inr new ])),
      ))

  -- hence the routes are the old ones without the feed's route
  pub routes_taken : (feed : ℕ) → HasLost (offers_at m p) offers feed → routes_of n ≡ take_out feed p (routes_of m)
  routes_taken feed loss =
      table_is n k (take_out feed p (routes_of m)) (IsTable-take_out feed p (routes_of m) (IsTable-map m h)) (λ x.
      let step = taken m n p offers at feed loss x in
      let out = take_out_leaves_others feed p x (routes_of m) in (
        (λ c. let there = step.0 c in out.1 ((both x).0 there.0, there.1)),
        (λ c. let there = out.0 c in step.1 ((both x).1 there.0, there.1)),
      ))

  -- hence the routes are the old ones with the feed's route replaced
  pub routes_swapped : (o : Offer) → HasSwapped (offers_at m p) offers o true → routes_of n ≡ put_in (route_by p o) (take_out o.feed p (routes_of m))
  routes_swapped o swap =
      let rest = take_out o.feed p (routes_of m) in
      table_is n k (put_in (route_by p o) rest)
      (IsTable-put_in (route_by p o) rest (has-take_out o.feed p (routes_of m)) (IsTable-take_out o.feed p (routes_of m) (IsTable-map m h))) (λ x.
      let step = swapped m n p offers at o swap x in
      let put = put_in_adds (route_by p o) x rest in
      let out = take_out_leaves_others o.feed p x (routes_of m) in (
        (λ c. put.1 (elim (step.0 c) [ inl old ↦ inl (out.1 ((both x).0 old.0, old.1)) | inr new ↦ inr new ])),
        (λ c. step.1 (elim (put.0 c) [ inl old ↦ let there = out.0 old in inl ((both x).1 there.0, there.1) | inr new ↦ inr new ])),
      ))

-- removing the only offer, a feed's own, leaves none
pub only_lost : (feed : ℕ) (o : Offer) → is_from feed o ≡ true → HasLost (o ∷ []) [] feed
only_lost feed o own x = (
  (λ c. absurd (Contains-none x c)),
  (λ c. elim (Contains-cases o [] x c.0) [
    | inl here ↦ absurd (both_ways (is_from feed x) c.1 (subst (λ z. is_from feed z ≡ true) here own))
    | inr none ↦ none
  ]),
)

-- adding the first offer gives just that one
pub first_gained : (o : Offer) → HasGained [] (o ∷ []) o
first_gained o x = (
  (λ c. elim (Contains-cases o [] x c) [ inl here ↦ inr here | inr none ↦ inl none ]),
  (λ c. elim c [ inl none ↦ absurd (Contains-none x none) | inr here ↦ subst (Contains (o ∷ [])) here (Contains-head o []) ]),
)

-- a single offer is valid
pub IsOffers-one : (o : Offer) → IsOffers (o ∷ [])
IsOffers-one o = record { some = omega arith; ranked = IsRanked-one o }

module _ (m : Map) (h : IsMap m) (p : Prefix) where
  -- if there are no offers at the prefix, no feed has a route to it
  pub none_had : (feed : ℕ) → None ≡ get m p → has feed p (routes_of m) ≡ false
  none_had feed there = has-is m h feed p ∙ ap (λ o. list_any (is_from feed) (offers_in o)) (sym there)

  -- the first offer for the prefix
  pub first_added : (o : Offer) → None ≡ get m p → routes_of (put m p (o ∷ [])) ≡ put_in (route_by p o) (routes_of m)
  first_added o there =
      let fresh = none_had o.feed there in
      let gain : HasGained (offers_at m p) (o ∷ []) o = subst (λ l. HasGained l (o ∷ []) o) (ap offers_in there) (first_gained o) in
      routes_added m (put m p (o ∷ [])) h (IsMap-put m h p (o ∷ []) (IsOffers-one o)) p (o ∷ []) (put_with m h p (o ∷ [])) o fresh gain

module _ {m : Map} (h : IsMap m) (p : Prefix) {old : List Offer} (there : Some old ≡ get m p) where
  -- the offers at the prefix
  at_is : offers_at m p ≡ old
  at_is = ap offers_in (sym there)

  -- a feed has a route if and only if it has one of these offers
  pub is_had : (feed : ℕ) → has feed p (routes_of m) ≡ list_any (is_from feed) old
  is_had feed = has-is m h feed p ∙ ap (list_any (is_from feed)) at_is

  module _ {new : List Offer} where
    -- storing the same offers leaves the map unchanged
    pub unchanged : new ≡ old → put m p new ≡ m
    unchanged same = ap (put m p) same ∙ put_same m h p old there

    -- one more offer
    pub more : IsOffers new → (o : Offer) → has o.feed p (routes_of m) ≡ false → HasGained old new o
        → routes_of (put m p new) ≡ put_in (route_by p o) (routes_of m)
    more lawful o fresh gain =
        routes_added m (put m p new) h (IsMap-put m h p new lawful) p new (put_with m h p new) o fresh
        (subst (λ l. HasGained l new o) (sym at_is) gain)

    -- one offer of a feed less
    pub less : IsOffers new → (feed : ℕ) → HasLost old new feed → routes_of (put m p new) ≡ take_out feed p (routes_of m)
    less lawful feed loss =
        routes_taken m (put m p new) h (IsMap-put m h p new lawful) p new (put_with m h p new) feed
        (subst (λ l. HasLost l new feed) (sym at_is) loss)

    -- another offer of the feed
    pub other : IsOffers new → (o : Offer) → HasSwapped old new o true → routes_of (put m p new) ≡ put_in (route_by p o) (take_out o.feed p (routes_of m))
    other lawful o swap =
        routes_swapped m (put m p new) h (IsMap-put m h p new lawful) p new (put_with m h p new) o
        (subst (λ l. HasSwapped l new o true) (sym at_is) swap)

    -- the only offer is removed with its prefix
    pub last_gone : new ≡ old → (feed : ℕ) (o : Offer) → old ≡ o ∷ [] → is_from feed o ≡ true
        → routes_of (erase (put m p new) p) ≡ take_out feed p (routes_of m)
    last_gone same feed o only own =
        ap (λ n. routes_of (erase n p)) (unchanged same)
        ∙ routes_taken m (erase m p) h (IsMap-erase m h p) p [] (erase_with m h p) feed
        (subst (λ l. HasLost l [] feed) (sym (at_is ∙ only)) (only_lost feed o own))

    -- the rest is a map
    pub last_map : new ≡ old → IsMap (erase (put m p new) p)
    last_map same = subst (λ n. IsMap (erase n p)) (sym (unchanged same)) (IsMap-erase m h p)

-- if the only offer is the feed's, the feed has one
pub one_is_from : (feed : ℕ) (offers : List Offer) (o : Offer) → offers ≡ o ∷ [] → is_from feed o ≡ true → list_any (is_from feed) offers ≡ true
one_is_from feed offers o only own = ap (list_any (is_from feed)) only ∙ list_any-at (is_from feed) (o ∷ []) 0 o (omega arith) own

-- a property that always holds also holds after an error
pub err_from : {T E P : Type 0} (r : Result T E) → P → OnErr r P
err_from (Ok x) p = tt
err_from (Err e) p = p

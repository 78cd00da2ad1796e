-- The routes that a map from prefixes to offers represents: its elements, and that they are a table.
use Rattle.std.proofs.Common.{◌≡◌, ℕ, Bool, true, false, eqb, ltb, ◌⊎◌, ◌↔◌, inl, inr, List, [], ◌∷◌, ◌++◌, get_or, Option, Some, None, refl, ap, ◌∙◌, sym}
use Rattle.std.proofs.Common.{◌≤◌, length, subst, arith, map, append_assoc, length-append}
use Rattle.std.proofs.lemmas.List.{length-map}
use Rattle.std.specs.Prelude.{IsTrue}
use Rattle.std.specs.List.{All, AllPairs, Contains, list_any}
use Rattle.std.proofs.lemmas.Bool.{cases_Bool, both_ways, false_from_ne_true, and_parts, and_from, eqb-true, eq-eqb, ltb-true}
use Rattle.std.proofs.lemmas.List.Elements.{All-map, Contains-append_left, Contains-append_right, Contains-append_cases, Contains-get_or}
use Rattle.std.proofs.lemmas.List.Folds.{Any-from_list_any}
use Rattle.std.proofs.lemmas.List.Kept.{AllPairs-cons}
use Rattle.rt_cidr.specs.declared.prefixes.Prefix.{Prefix}
use Rattle.rt_cidr.specs.Prefix.{same_prefix}
use Rattle.rt_cidr.proofs.Promised.{prefix_by_parts}
use Rattle.rt_trie.specs.Map.{before, get, IsBeforeAll, IsOrdered}
use Rattle.rt_trie.proofs.Promised.{pairs-found}
use Rattle.rt_rib.specs.declared.routes.Route.{Route}
use Rattle.rt_rib.specs.declared.offers.Offer.{Offer}
use Rattle.rt_rib.specs.Maps.{outranks, is_from, IsOffers, IsRanked, Map, route_by, routes_of, IsMap}
use Rattle.rt_rib.specs.Table.{precedes, is_better, is_of, has, IsTable}
use Rattle.rt_rib.specs.Order.{below_then, offer_of}
use Rattle.rt_rib.specs.inside.Maps.{offers_in, offers_at, HasRoute}
use Rattle.rt_rib.proofs.Lists.{AllPairs-append, AllPairs-head, AllPairs-tail, list_any-at, list_any-from_none}
use Rattle.rt_rib.proofs.Order.{below_then-true, below_then-less, below_then-same, is_of-parts, is_of-from}
use Rattle.rt_rib.proofs.Sets.{Contains-head, Contains-tail, Contains-cases, Contains-none, one_table_of_set}
use Rattle.rt_rib.proofs.Tables.{Ordered, Apart}

module _ {X Y : Type 0} (f : X → Y) where
  -- the images of a list contain the image of each element
  pub Contains-map : (xs : List X) (x : X) → Contains xs x → Contains (map f xs) (f x)
  Contains-map [] x c = absurd (Contains-none x c)
  Contains-map (y ∷ xs) x c = elim (Contains-cases y xs x c) [
    | inl here ↦ subst (λ z. Contains (map f (y ∷ xs)) (f z)) here (Contains-head (f y) (map f xs))
    | inr later ↦ Contains-tail (f y) (map f xs) (f x) (Contains-map xs x later)
  ]

  -- and nothing else
  pub Contains-from_map : (xs : List X) (y : Y) → Contains (map f xs) y → (x : X) × Contains xs x × (f x ≡ y)
  Contains-from_map [] y c = absurd (Contains-none y c)
  Contains-from_map (x ∷ xs) y c = elim (Contains-cases (f x) (map f xs) y c) [
    | inl here ↦ (x, Contains-head x xs, here)
    | inr later ↦ let rest = Contains-from_map xs y later in (rest.0, Contains-tail x xs rest.0 rest.1, rest.2)
  ]

  -- a relation between each two images
  pub AllPairs-map : (R : Y → Y → Type 0) (xs : List X) → AllPairs (λ a b. R (f a) (f b)) xs → AllPairs R (map f xs)
  AllPairs-map R [] h = λ i j d l m. absurd (omega arith)
  AllPairs-map R (x ∷ xs) h =
      AllPairs-cons R (f x) (map f xs) (All-map (R (f x)) f xs (AllPairs-head (λ a b. R (f a) (f b)) x xs h))
      (AllPairs-map R xs (AllPairs-tail (λ a b. R (f a) (f b)) x xs h))

-- if an element satisfies a test, some element does
any-from_contained : {X : Type 0} (test : X → Bool) (xs : List X) (x : X) → Contains xs x → test x ≡ true → list_any test xs ≡ true
any-from_contained test xs x c e = list_any-at test xs c.0 x c.1 (ap test c.2 ∙ e)

-- an element that satisfies the test
any-contained : {X : Type 0} (test : X → Bool) (xs : List X) → list_any test xs ≡ true → (x : X) × Contains xs x × (test x ≡ true)
any-contained test xs e = let any = Any-from_list_any test xs e in (any.1, (any.0, any.2, any.3), any.4)

-- a property of whatever a list contains
pub All-from_contained : {X : Type 0} (P : X → Type 0) (xs : List X) → ((x : X) → Contains xs x → P x) → All P xs
All-from_contained P xs h = λ k d l. h (get_or xs k d) (Contains-get_or xs k d l)

-- two prefixes are equal, or the test says that they aren't
pub one_or_other : (p q : Prefix) → (p ≡ q) ⊎ (same_prefix p q ≡ false)
one_or_other p q = elim (cases_Bool (same_prefix p q)) [
  | inl one ↦ let parts = and_parts (eqb p.base q.base) (eqb p.len q.len) one in inl (prefix_by_parts p q (eqb-true p.base q.base parts.0) (eqb-true p.len q.len parts.1))
  | inr other ↦ inr other
]

-- a prefix is the same as itself
pub same_prefix-itself : (p : Prefix) → same_prefix p p ≡ true
same_prefix-itself p = and_from (eqb p.base p.base) (eqb p.len p.len) (eq-eqb p.base p.base refl) (eq-eqb p.len p.len refl)

-- each route of the map belongs to an offer stored at its prefix
pub offer_in : (m : Map) (r : Route) → Contains (routes_of m) r → (offers : List Offer) × Contains m (r.prefix, offers) × Contains offers (offer_of r)
offer_in [] r c = absurd (Contains-none r c)
offer_in ((p, offers) ∷ rest) r c = elim (Contains-append_cases (map (route_by p) offers) (routes_of rest) r c) [
  | inl here ↦
      let from = Contains-from_map (route_by p) offers r here in
      let P : Route → Type 0 = λ x. (os : List Offer) × Contains ((p, offers) ∷ rest) (x.prefix, os) × Contains os (offer_of x) in
      subst P from.2 (offers, Contains-head (p, offers) rest, from.1)
  | inr later ↦ let x = offer_in rest r later in (x.0, Contains-tail (p, offers) rest (r.prefix, x.0) x.1, x.2)
]

-- the converse
pub offer_out : (m : Map) (p : Prefix) (offers : List Offer) (o : Offer) → Contains m (p, offers) → Contains offers o → Contains (routes_of m) (route_by p o)
offer_out [] p offers o c d = absurd (Contains-none (p, offers) c)
offer_out ((q, others) ∷ rest) p offers o c d = elim (Contains-cases (q, others) rest (p, offers) c) [
  | inl here ↦
      let P : Prefix × List Offer → Type 0 = λ z. Contains z.1 o → Contains (map (route_by q) others ++ routes_of rest) (route_by z.0 o) in
      subst P here (λ e. Contains-append_left (map (route_by q) others) (routes_of rest) (route_by q o) (Contains-map (route_by q) others o e)) d
  | inr later ↦ Contains-append_right (map (route_by q) others) (routes_of rest) (route_by p o) (offer_out rest p offers o later d)
]

module _ where

-- the routes of the map are those that it holds
pub there_in : (m : Map) (r : Route) → IsOrdered m → Contains (routes_of m) r → HasRoute m r
there_in m r order c =
    let x = offer_in m r c in
    subst (λ o. Contains (offers_in o) (offer_of r)) (sym ((pairs-found m r.prefix x.0 order).0 x.1)) x.2

-- the converse
pub there_out : (m : Map) (r : Route) → IsOrdered m → HasRoute m r → Contains (routes_of m) r
there_out m r order c = by_value (get m r.prefix) refl c where
  -- by the offers at its prefix
  by_value : (o : Option (List Offer)) → get m r.prefix ≡ o → Contains (offers_in o) (offer_of r) → Contains (routes_of m) r
  by_value None e d = absurd (Contains-none (offer_of r) d)
  by_value (Some offers) e d = offer_out m r.prefix offers (offer_of r) ((pairs-found m r.prefix offers order).1 e) d

-- a prefix before all of the list is before each of it
pub before-each : (p : Prefix) (rest : Map) (q : Prefix) (offers : List Offer) → IsBeforeAll p rest → Contains rest (q, offers) → IsTrue (before p q)
before-each p [] q offers h c = absurd (Contains-none (q, offers) c)
before-each p ((x, others) ∷ rest) q offers h c = elim (Contains-cases (x, others) rest (q, offers) c) [
  | inl here ↦ let P : Prefix × List Offer → Type 0 = λ z. IsTrue (before p z.0) in subst P here h.0
  | inr later ↦ before-each p rest q offers h.1 later
]

-- a route of an earlier prefix precedes
pub precedes-by_prefix : (r s : Route) → before r.prefix s.prefix ≡ true → precedes r s ≡ true
precedes-by_prefix r s e =
    elim (below_then-true r.prefix.base s.prefix.base (ltb r.prefix.len s.prefix.len) e) [
      | inl less ↦ below_then-less r.prefix.base s.prefix.base (below_then r.prefix.len s.prefix.len (is_better r s)) less
      | inr same ↦
          below_then-same r.prefix.base s.prefix.base (below_then r.prefix.len s.prefix.len (is_better r s)) same.0
          (below_then-less r.prefix.len s.prefix.len (is_better r s) (ltb-true r.prefix.len s.prefix.len same.1))
    ]

-- and isn't to the later prefix
apart-by_prefix : (r s : Route) → before r.prefix s.prefix ≡ true → Apart r s
apart-by_prefix r s e =
    false_from_ne_true (is_of s.feed s.prefix r) (λ same.
    let parts = is_of-parts s.feed s.prefix r same in
    let base = parts.1 in
    let len = parts.2 in
    elim (below_then-true r.prefix.base s.prefix.base (ltb r.prefix.len s.prefix.len) e) [
      | inl less ↦ omega arith
      | inr equal ↦ let low = ltb-true r.prefix.len s.prefix.len equal.1 in omega arith
    ])

-- each pair's prefix is before those of the routes after it
pub before-routes : (p : Prefix) (rest : Map) (s : Route) → IsBeforeAll p rest → Contains (routes_of rest) s → before p s.prefix ≡ true
before-routes p rest s h c = let x = offer_in rest s c in before-each p rest s.prefix x.0 h x.1

-- the offers for a prefix as routes to it
module _ (p : Prefix) (offers : List Offer) (h : IsRanked offers) where
  ordered_at : AllPairs Ordered (map (route_by p) offers)
  ordered_at =
      AllPairs-map (route_by p) Ordered offers (λ i j d l m.
      let a = get_or offers i d in
      let b = get_or offers j d in
      below_then-same p.base p.base (below_then p.len p.len (outranks a b)) refl (below_then-same p.len p.len (outranks a b) refl (h.ordered i j d l m)))

  single_at : AllPairs Apart (map (route_by p) offers)
  single_at =
      AllPairs-map (route_by p) Apart offers (λ i j d l m.
      let a = get_or offers i d in
      let b = get_or offers j d in
      false_from_ne_true (is_of b.feed p (route_by p a)) (λ same.
      both_ways (is_from b.feed a) (h.single i j d l m) (eq-eqb a.feed b.feed (is_of-parts b.feed p (route_by p a) same).0)))

-- a map with valid offers represents a table
pub IsTable-routes : (m : Map) → IsOrdered m → ((p : Prefix) (offers : List Offer) → Contains m (p, offers) → IsOffers offers) → IsTable (routes_of m)
IsTable-routes [] order each = record { ordered = λ i j d l k. absurd (omega arith); single = λ i j d l k. absurd (omega arith) }
IsTable-routes ((p, offers) ∷ rest) order each =
    let tail = IsTable-routes rest order.1 (λ q os c. each q os (Contains-tail (p, offers) rest (q, os) c)) in
    let ranked = (each p offers (Contains-head (p, offers) rest)).ranked in
    let early : (s : Route) → Contains (routes_of rest) s → before p s.prefix ≡ true = λ s c. before-routes p rest s order.0 c in
    record {
      ordered =
          AllPairs-append Ordered (map (route_by p) offers) (routes_of rest) (ordered_at p offers ranked) tail.ordered
          (All-map (λ r. All (Ordered r) (routes_of rest)) (route_by p) offers (λ k d l.
          All-from_contained (Ordered (route_by p (get_or offers k d))) (routes_of rest)
          (λ s c. precedes-by_prefix (route_by p (get_or offers k d)) s (early s c))));
      single =
          AllPairs-append Apart (map (route_by p) offers) (routes_of rest) (single_at p offers ranked) tail.single
          (All-map (λ r. All (Apart r) (routes_of rest)) (route_by p) offers (λ k d l.
          All-from_contained (Apart (route_by p (get_or offers k d))) (routes_of rest)
          (λ s c. apart-by_prefix (route_by p (get_or offers k d)) s (early s c))));
    }

-- it represents at least one route for each prefix
routes_many : (m : Map) → ((p : Prefix) (offers : List Offer) → Contains m (p, offers) → IsOffers offers) → length m ≤ length (routes_of m)
routes_many [] each = omega arith
routes_many ((p, offers) ∷ rest) each =
    let more = routes_many rest (λ q os c. each q os (Contains-tail (p, offers) rest (q, os) c)) in
    let some = (each p offers (Contains-head (p, offers) rest)).some in
    omega (arith, more, some, length-append (map (route_by p) offers) (routes_of rest), length-map offers (route_by p))

module _ (m : Map) (h : IsMap m) where
  -- each pair of a map has offers
  pub each_offers : (p : Prefix) (offers : List Offer) → Contains m (p, offers) → IsOffers offers
  each_offers p offers c = h.each p offers ((pairs-found m p offers h.ordered).0 c)

  -- a map has at most as many prefixes as routes
  pub pairs_few : length m ≤ length (routes_of m)
  pairs_few = routes_many m each_offers

  -- the routes of a map are a table
  pub IsTable-map : IsTable (routes_of m)
  IsTable-map = IsTable-routes m h.ordered each_offers

  -- a table of exactly the routes that the map holds is the table of the map
  pub table_is : (t : List Route) → IsTable t → ((x : Route) → HasRoute m x ↔ Contains t x) → routes_of m ≡ t
  table_is t table same =
      one_table_of_set (routes_of m) t IsTable-map table
      (λ x. ((λ c. (same x).0 (there_in m x h.ordered c)), (λ c. there_out m x h.ordered ((same x).1 c))))

  -- a feed has a route to a prefix if and only if it has an offer there
  pub has-is : (feed : ℕ) (p : Prefix) → has feed p (routes_of m) ≡ list_any (is_from feed) (offers_at m p)
  has-is feed p = elim (cases_Bool (list_any (is_from feed) (offers_at m p))) [
    | inl some ↦
        let found = any-contained (is_from feed) (offers_at m p) some in
        let r = route_by p found.0 in
        let there = there_out m r h.ordered found.1 in
        any-from_contained (is_of feed p) (routes_of m) r there (is_of-from feed p r (eqb-true found.0.feed feed found.2) refl refl) ∙ sym some
    | inr none ↦
        list_any-from_none (is_of feed p) (routes_of m) (All-from_contained (λ r. is_of feed p r ≡ false) (routes_of m) (λ r c.
        false_from_ne_true (is_of feed p r) (λ mine.
        let parts = is_of-parts feed p r mine in
        let one = prefix_by_parts r.prefix p parts.1 parts.2 in
        let there = subst (λ q. Contains (offers_at m q) (offer_of r)) one (there_in m r h.ordered c) in
        both_ways (list_any (is_from feed) (offers_at m p)) none
        (any-from_contained (is_from feed) (offers_at m p) (offer_of r) there (eq-eqb r.feed feed parts.0))))) ∙ sym none
  ]

-- the empty list is a map
pub IsMap-nil : IsMap []
IsMap-nil = record { ordered = tt; each = λ p offers e. cc }

-- the routes of one more pair of those that a walk visits
pub walked : (done more all : List Route) (ahead rest : Map) (p : Prefix) (offers same : List Offer) → done ++ routes_of ahead ≡ all
    → ahead ≡ (p, offers) ∷ rest → same ≡ offers → more ≡ done ++ map (route_by p) same → more ++ routes_of rest ≡ all
walked done more all ahead rest p offers same before first is appended =
    ap (λ l. l ++ routes_of rest) appended ∙ append_assoc done (map (route_by p) same) (routes_of rest)
    ∙ ap (λ o. done ++ (map (route_by p) o ++ routes_of rest)) is ∙ ap (λ n. done ++ routes_of n) (sym first) ∙ before

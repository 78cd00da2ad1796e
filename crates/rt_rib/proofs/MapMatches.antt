-- All matches of an address in a map: the routes of the prefixes that cover it, the longest first.
use Rattle.std.proofs.Common.{◌≡◌, ◌<◌, ◌↔◌, Bool, true, false, cond, inl, inr, List, [], ◌∷◌, map, refl, ap, ◌∙◌, sym, arith}
use Rattle.std.specs.List.{All, AllPairs, Contains, filter}
use Rattle.std.proofs.lemmas.Bool.{cases_lt, ltb-true}
use Rattle.std.proofs.lemmas.List.Elements.{All-map, Contains-append_left, Contains-append_right, Contains-append_cases}
use Rattle.rt_cidr.specs.declared.address.Addr.{Addr}
use Rattle.rt_cidr.specs.declared.prefixes.Prefix.{Prefix}
use Rattle.rt_cidr.specs.Prefix.{covers}
use Rattle.rt_trie.specs.Map.{covering, before, IsBeforeAll, IsOrdered}
use Rattle.rt_trie.proofs.Promised.{later_is_longer, pairs-found}
use Rattle.rt_rib.specs.declared.routes.Route.{Route}
use Rattle.rt_rib.specs.declared.offers.Offer.{Offer}
use Rattle.rt_rib.specs.Maps.{IsOffers, Map, route_by, routes_of, IsMap}
use Rattle.rt_rib.specs.Order.{offer_of}
use Rattle.rt_rib.specs.LookUp.{look_up_all}
use Rattle.rt_rib.specs.inside.Maps.{routes_backward}
use Rattle.rt_rib.proofs.Lists.{AllPairs-append}
use Rattle.rt_rib.proofs.Order.{below_then-true, below_then-less, below_then-same}
use Rattle.rt_rib.proofs.Covering.{base_at, covers-base}
use Rattle.rt_rib.proofs.Sets.{Contains-head, Contains-tail, filter-keeps, filter-from}
use Rattle.rt_rib.proofs.MapRoutes.{All-from_contained, AllPairs-map, offer_in, offer_out, before-routes, IsTable-map}
use Rattle.rt_rib.proofs.Ranking.{Beats, look_up_all_finds_matches}

-- the routes of a map are the same in either order
backward-contains : (m : Map) (r : Route) → Contains (routes_backward m) r ↔ Contains (routes_of m) r
backward-contains [] r = ((λ c. c), (λ c. c))
backward-contains ((p, offers) ∷ rest) r =
    let here = map (route_by p) offers in
    let same = backward-contains rest r in (
      (λ c. elim (Contains-append_cases (routes_backward rest) here r c) [
        | inl later ↦ Contains-append_right here (routes_of rest) r (same.0 later)
        | inr own ↦ Contains-append_left here (routes_of rest) r own
      ]),
      (λ c. elim (Contains-append_cases here (routes_of rest) r c) [
        | inl own ↦ Contains-append_right (routes_backward rest) here r own
        | inr later ↦ Contains-append_left (routes_backward rest) here r (same.1 later)
      ]),
    )

-- a filter keeps a map ordered
before-filter : (t : Prefix × List Offer → Bool) (p : Prefix) (m : Map) → IsBeforeAll p m → IsBeforeAll p (filter t m)
before-filter t p [] h = tt
before-filter t p ((q, offers) ∷ rest) h =
    let tail = before-filter t p rest h.1 in
    elim (t (q, offers)) as (λ b. IsBeforeAll p (cond b ((q, offers) ∷ filter t rest) (filter t rest))) [ true ↦ (h.0, tail) | false ↦ tail ]

ordered-filter : (t : Prefix × List Offer → Bool) (m : Map) → IsOrdered m → IsOrdered (filter t m)
ordered-filter t [] h = tt
ordered-filter t ((p, offers) ∷ rest) h =
    let tail = ordered-filter t rest h.1 in
    elim (t (p, offers)) as (λ b. IsOrdered (cond b ((p, offers) ∷ filter t rest) (filter t rest))) [ true ↦ (before-filter t p rest h.0, tail) | false ↦ tail ]

-- true if the prefix of a pair covers the address
abbrev pair_covers : Addr → Prefix × List Offer → Bool
pair_covers addr x = covers x.0 addr

module _ (addr : Addr) where
  -- if two prefixes cover the same address, the later one is longer
  longer : (p q : Prefix) → before p q ≡ true → covers p addr ≡ true → covers q addr ≡ true → p.len < q.len
  longer p q e c d =
      let long = later_is_longer p q addr e c d in
      elim (below_then-true p.base q.base _ e) [
        | inl low ↦ elim (cases_lt p.len q.len) [
          | inl less ↦ less
          | inr high ↦
              let same : p.len ≡ q.len = omega arith in
              let base = covers-base p addr c ∙ ap (base_at addr) same ∙ sym (covers-base q addr d) in
              absurd (omega arith)
        ]
        | inr equal ↦ ltb-true p.len q.len equal.1
      ]

  -- hence its routes beat those of the earlier one
  ordered_backward : (m : Map) → IsOrdered m → ((p : Prefix) (offers : List Offer) → Contains m (p, offers) → IsOffers offers × (covers p addr ≡ true))
      → AllPairs Beats (routes_backward m)
  ordered_backward [] order each = λ i j d l k. absurd (omega arith)
  ordered_backward ((p, offers) ∷ rest) order each =
      let here = each p offers (Contains-head (p, offers) rest) in
      AllPairs-append Beats (routes_backward rest) (map (route_by p) offers)
      (ordered_backward rest order.1 (λ q os c. each q os (Contains-tail (p, offers) rest (q, os) c)))
      (AllPairs-map (route_by p) Beats offers (λ i j d l k. below_then-same p.len p.len _ refl (here.0.ranked.ordered i j d l k)))
      (All-from_contained (λ s. All (Beats s) (map (route_by p) offers)) (routes_backward rest) (λ s c.
      let there = (backward-contains rest s).0 c in
      let x = offer_in rest s there in
      let covered = (each s.prefix x.0 (Contains-tail (p, offers) rest (s.prefix, x.0) x.1)).1 in
      let less = longer p s.prefix (before-routes p rest s order.0 there) here.1 covered in
      All-map (Beats s) (route_by p) offers (λ k d l. below_then-less p.len s.prefix.len _ less)))

  module _ (m : Map) (h : IsMap m) where
    -- the routes of the pairs that cover the address are exactly the matches
    matches_exactly : (r : Route) → Contains (routes_backward (covering m addr)) r ↔ (Contains (routes_of m) r × (covers r.prefix addr ≡ true))
    matches_exactly r = (
      (λ c.
          let x = offer_in (covering m addr) r ((backward-contains (covering m addr) r).0 c) in
          let there = filter-from (pair_covers addr) m (r.prefix, x.0) x.1 in
          (offer_out m r.prefix x.0 (offer_of r) there.0 x.2, there.1)),
      (λ c.
          let x = offer_in m r c.0 in
          let there = filter-keeps (pair_covers addr) m (r.prefix, x.0) x.1 c.1 in
          (backward-contains (covering m addr) r).1 (offer_out (covering m addr) r.prefix x.0 (offer_of r) there x.2)),
    )

    -- backward, they are the result of a look-up of all
    pub look_up_all-backward : look_up_all addr (routes_of m) ≡ routes_backward (covering m addr)
    look_up_all-backward =
        ((look_up_all_finds_matches addr (routes_of m) (IsTable-map m h)).0 (routes_backward (covering m addr))).1 (record {
          exactly = matches_exactly;
          ordered =
              ordered_backward (covering m addr) (ordered-filter (pair_covers addr) m h.ordered) (λ p offers c.
              let there = filter-from (pair_covers addr) m (p, offers) c in
              (h.each p offers ((pairs-found m p offers h.ordered).0 there.0), there.1));
        })

-- The look-up in a map: the first offer of the longest prefix that covers the address.
use Rattle.std.proofs.Common.{◌≡◌, ◌<◌, ◌≤◌, true, false, List, [], ◌∷◌, length, get_or, Some, None, ap, ◌∙◌, sym, subst, inl, inr, arith}
use Rattle.std.specs.Prelude.{IsTrue}
use Rattle.std.specs.List.{All, Contains}
use Rattle.std.proofs.lemmas.Bool.{both_ways, false_from_ne_true}
use Rattle.std.proofs.lemmas.List.Elements.{All-contains}
use Rattle.rt_cidr.specs.declared.address.Addr.{Addr}
use Rattle.rt_cidr.specs.declared.prefixes.Prefix.{Prefix}
use Rattle.rt_cidr.specs.Prefix.{covers}
use Rattle.rt_cidr.proofs.Promised.{prefix_by_parts}
use Rattle.rt_trie.specs.Map.{get}
use Rattle.rt_trie.proofs.Promised.{pairs-found}
use Rattle.rt_rib.specs.declared.offers.Offer.{Offer}
use Rattle.rt_rib.specs.Maps.{outranks, IsRanked, Map, route_by, routes_of, IsMap}
use Rattle.rt_rib.specs.Order.{offer_of}
use Rattle.rt_rib.specs.LookUp.{look_up}
use Rattle.rt_rib.specs.Laws.{IsBestMatch}
use Rattle.rt_rib.proofs.Lists.{AllPairs-head}
use Rattle.rt_rib.proofs.Order.{is_better-itself}
use Rattle.rt_rib.proofs.Order.{outranks-trans}
use Rattle.rt_rib.proofs.Covering.{base_at, covers-base}
use Rattle.rt_rib.proofs.Sets.{Contains-head, Contains-cases}
use Rattle.rt_rib.proofs.MapRoutes.{offer_in, offer_out, IsTable-map}
use Rattle.rt_rib.proofs.Best.{look_up_finds_best}

-- none of the offers is better than the first
pub first_best : (p : Prefix) (o : Offer) (rest : List Offer) (x : Offer) → IsRanked (o ∷ rest) → Contains (o ∷ rest) x → outranks x o ≡ false
first_best p o rest x h c = elim (Contains-cases o rest x c) [
  | inl here ↦ subst (λ z. outranks z o ≡ false) here (is_better-itself (route_by p o))
  | inr later ↦
      let order = All-contains (λ z. outranks o z ≡ true) rest x (AllPairs-head (λ a b. outranks a b ≡ true) o rest h.ordered) later in
      false_from_ne_true (outranks x o) (λ back.
      both_ways (outranks o o) (is_better-itself (route_by p o)) (outranks-trans o x o order back))
]

module _ (m : Map) (h : IsMap m) (addr : Addr) where
  module _ (p : Prefix) (o : Offer) (rest : List Offer) (there : Contains m (p, o ∷ rest)) (covered : covers p addr ≡ true)
      (most : All (λ (y : Prefix × List Offer). IsTrue (covers y.0 addr) → y.0.len ≤ p.len) m) where
    -- the first offer at the longest prefix is the best match
    best_match : IsBestMatch addr (routes_of m) (route_by p o)
    best_match = record {
      contained = offer_out m p (o ∷ rest) o there (Contains-head o rest);
      covering = covered;
      longest = λ s c e. let x = offer_in m s c in
          All-contains (λ (y : Prefix × List Offer). IsTrue (covers y.0 addr) → y.0.len ≤ p.len) m (s.prefix, x.0) most x.1 e;
      best = λ s c e len.
          let x = offer_in m s c in
          let base = covers-base s.prefix addr e ∙ ap (base_at addr) len ∙ sym (covers-base p addr covered) in
          let one = prefix_by_parts s.prefix p base len in
          let at = sym ((pairs-found m s.prefix x.0 h.ordered).0 x.1) ∙ ap (get m) one ∙ (pairs-found m p (o ∷ rest) h.ordered).0 there in
          let same : x.0 ≡ o ∷ rest = cc in
          first_best p o rest (offer_of s) (h.each p (o ∷ rest) ((pairs-found m p (o ∷ rest) h.ordered).0 there)).ranked
          (subst (λ l. Contains l (offer_of s)) same x.2);
    }

    -- hence it is the answer to a look-up
    pub look_up-some : look_up addr (routes_of m) ≡ Some (route_by p o)
    look_up-some = ((look_up_finds_best addr (routes_of m) (IsTable-map m h)).0 (route_by p o)).1 best_match

  -- the same, as the code reads the first offer
  pub look_up-first : (p : Prefix) (offers slice : List Offer) (d : Offer) → slice ≡ offers → 0 < length slice
      → Contains m (p, offers) × IsTrue (covers p addr) × All (λ (y : Prefix × List Offer). IsTrue (covers y.0 addr) → y.0.len ≤ p.len) m
      → look_up addr (routes_of m) ≡ Some (route_by p (get_or slice 0 d))
  look_up-first p offers [] d same some longest = absurd (omega arith)
  look_up-first p offers (o ∷ rest) d same some longest = look_up-some p o rest (subst (λ l. Contains m (p, l)) (sym same) longest.0) longest.1 longest.2

  -- if no prefix covers the address, a look-up finds nothing
  pub look_up-none : All (λ (y : Prefix × List Offer). covers y.0 addr ≡ false) m → look_up addr (routes_of m) ≡ None
  look_up-none none =
      (look_up_finds_best addr (routes_of m) (IsTable-map m h)).1.1 (λ s c.
      let x = offer_in m s c in
      All-contains (λ (y : Prefix × List Offer). covers y.0 addr ≡ false) m (s.prefix, x.0) none x.1)

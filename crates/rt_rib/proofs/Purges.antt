-- Removing a feed's routes from the map in a single walk.
use Rattle.std.proofs.Common.{◌≡◌, ℕ, zero, suc, ◌+◌, ◌-◌, Bool, true, false, not, cond, eqb, List, [], ◌∷◌, ◌++◌, length, get_or, refl, ap, ◌∙◌, sym}
use Rattle.std.proofs.Common.{subst, inl, inr, arith, map}
use Rattle.std.specs.List.{Contains, count_by}
use Rattle.std.proofs.lemmas.Bool.{cases_Bool, cond-true, cond-false, not_from_false, eqb-true}
use Rattle.std.proofs.lemmas.List.Elements.{Contains-get_or, filter-append}
use Rattle.std.proofs.lemmas.List.Sums.{sum_by-cons, sum_by-append}
use Rattle.rt_cidr.specs.declared.prefixes.Prefix.{Prefix}
use Rattle.rt_trie.specs.Map.{IsOrdered}
use Rattle.rt_trie.specs.Retained.{with_pair, IsRetained}
use Rattle.rt_trie.proofs.Promised.{pairs-found}
use Rattle.rt_rib.specs.declared.routes.Route.{Route}
use Rattle.rt_rib.specs.declared.offers.Offer.{Offer}
use Rattle.rt_rib.specs.declared.offers.Removal.TheVariants.{Missing, Last, Gone}
use Rattle.rt_rib.specs.declared.purge.Purging.{Purging}
use Rattle.rt_rib.specs.Maps.{is_from, IsOffers, Map, route_by, routes_of, IsMap}
use Rattle.rt_rib.specs.inside.Offers.{without, TakesOut}
use Rattle.rt_rib.specs.inside.Purges.{is_over, AreOthers, IsPurged}
use Rattle.rt_rib.specs.Table.{count_of, purge}
use Rattle.rt_rib.proofs.Counts.{count-both}
use Rattle.rt_rib.proofs.Lists.{filter-all, list_any-none}
use Rattle.rt_rib.proofs.Sets.{Contains-tail, Contains-cases, Contains-none}

-- a purge removes nothing if no route is the feed's
purge-none : (feed : ℕ) (t : List Route) → ((r : Route) → Contains t r → eqb r.feed feed ≡ false) → purge feed t ≡ t
purge-none feed t none =
    filter-all (λ (r : Route). not (eqb r.feed feed)) t (λ k d l. not_from_false (eqb (get_or t k d).feed feed) (none (get_or t k d) (Contains-get_or t k d l)))

-- no route is the feed's if its count is 0
none_counted : (feed : ℕ) (t : List Route) → count_of feed t ≡ 0 → (r : Route) → Contains t r → eqb r.feed feed ≡ false
none_counted feed t none r c = none_by (λ (x : Route). eqb x.feed feed) t none r c where
  -- the same for any test
  none_by : {X : Type 0} (p : X → Bool) (xs : List X) → count_by p xs ≡ 0 → (x : X) → Contains xs x → p x ≡ false
  none_by p [] e x d = absurd (Contains-none x d)
  none_by p (y ∷ xs) e x d =
      let whole = sum_by-cons (λ z. cond (p z) 1 0) y xs in
      elim (cases_Bool (p y)) [
        | inl passes ↦ let one : cond (p y) 1 0 ≡ ◌+◌ 1 0 = cond-true (p y) 1 0 passes in absurd (omega arith)
        | inr fails ↦
            let nothing : cond (p y) 1 0 ≡ ◌+◌ 0 0 = cond-false (p y) 1 0 fails in
            elim (Contains-cases y xs x d) [ inl here ↦ subst (λ z. p z ≡ false) here fails | inr later ↦ none_by p xs (omega arith) x later ]
      ]

-- purging the routes to a prefix removes the feed's offer
pub purge-routes : (feed : ℕ) (p : Prefix) (offers : List Offer) → purge feed (map (route_by p) offers) ≡ map (route_by p) (without feed offers)
purge-routes feed p [] = refl
purge-routes feed p (o ∷ offers) =
    let rest = purge-routes feed p offers in
    elim (cases_Bool (is_from feed o)) [ inl own ↦ rw own rest | inr other ↦ rw other (ap (λ z. route_by p o ∷ z) rest) ]

-- a feed has the same number of routes to a prefix as of offers
count-routes : (feed : ℕ) (p : Prefix) (offers : List Offer) → count_of feed (map (route_by p) offers) ≡ count_by (is_from feed) offers
count-routes feed p [] = refl
count-routes feed p (o ∷ offers) =
    sum_by-cons (λ (r : Route). cond (eqb r.feed feed) 1 0) (route_by p o) (map (route_by p) offers)
    ∙ ap (λ n. cond (is_from feed o) 1 0 + n) (count-routes feed p offers) ∙ sym (sum_by-cons (λ x. cond (is_from feed x) 1 0) o offers)

-- the routes of a prefix that stays if it has other offers, and of the rest after it
kept_routes : (stays : Bool) (p : Prefix) (others made : List Offer) (after : Map) → AreOthers others made stays
    → routes_of (with_pair stays p made after) ≡ map (route_by p) others ++ routes_of after
kept_routes true p others made after h = rw h.0 refl
kept_routes false p others made after h = rw h refl

-- its offers are valid if those of the rest are
kept_offers : (stays : Bool) (p : Prefix) (others made : List Offer) (after : Map) → AreOthers others made stays
    → ((q : Prefix) (offers : List Offer) → Contains after (q, offers) → IsOffers offers)
    → (q : Prefix) (offers : List Offer) → Contains (with_pair stays p made after) (q, offers) → IsOffers offers
kept_offers true p others made after h rest q offers c = elim (Contains-cases (p, made) after (q, offers) c) [
  | inl here ↦ let P : Prefix × List Offer → Type 0 = λ z. IsOffers z.1 in subst P here h.1
  | inr later ↦ rest q offers later
]
kept_offers false p others made after h rest q offers c = rest q offers c

-- the effect of a purge on a pair that it is shown
abbrev pub Purges : Purging → Prefix → List Offer → Purging → List Offer → Bool → Type 0
Purges s p old t new stays = IsPurged s t old new stays

-- a purge that knows the number of its feed's routes removes all of them
pub purged_routes : (s t : Purging) (m n : Map) → IsRetained is_over Purges s t m n → s.remaining ≡ count_of s.feed (routes_of m)
    → routes_of n ≡ purge s.feed (routes_of m)
purged_routes s t [] n h e = rw h.1 refl
purged_routes s t ((p, offers) ∷ rest) n h e =
    let all = routes_of ((p, offers) ∷ rest) in
    elim h [
      | inl i ↦
          let none : count_of s.feed all ≡ 0 = sym e ∙ eqb-true s.remaining 0 i.0 in
          rw i.2 (sym (purge-none s.feed all (none_counted s.feed all none)))
      | inr i ↦
          let is = i.3.judged in
          let counted : i.1.remaining ≡ count_of s.feed (routes_of rest) =
          omega (
            arith,
            is.fewer,
            e,
            sum_by-append (λ (r : Route). cond (eqb r.feed s.feed) 1 0) (map (route_by p) offers)
                (routes_of rest),
            count-routes s.feed p offers,
          ) in
          let after : routes_of i.2 ≡ purge s.feed (routes_of rest) = rw is.same_feed at (purged_routes i.1 t rest i.2 i.4 (rw is.same_feed counted)) in
          ap routes_of i.3.new_is
          ∙ kept_routes i.3.stays p (without s.feed offers) i.3.made i.2 is.others
          ∙ ap (λ z. map (route_by p) (without s.feed offers) ++ z) after
          ∙ ap (λ z. z ++ purge s.feed (routes_of rest)) (sym (purge-routes s.feed p offers))
          ∙ sym (filter-append (λ (r : Route). not (eqb r.feed s.feed)) (map (route_by p) offers) (routes_of rest))
    ]

-- a purge keeps the other offers valid
purged_offers : (s t : Purging) (m n : Map) → IsRetained is_over Purges s t m n → ((q : Prefix) (offers : List Offer) → Contains m (q, offers) → IsOffers offers)
    → (q : Prefix) (offers : List Offer) → Contains n (q, offers) → IsOffers offers
purged_offers s t [] n h each q offers c = absurd (Contains-none (q, offers) (subst (λ l. Contains l (q, offers)) h.1 c))
purged_offers s t ((p, old) ∷ rest) n h each q offers c = elim h [
  | inl i ↦ each q offers (subst (λ l. Contains l (q, offers)) i.2 c)
  | inr i ↦
      let tail : (x : Prefix) (others : List Offer) → Contains rest (x, others)
      → IsOffers others = λ x others d. each x others (Contains-tail (p, old) rest (x, others) d) in
      kept_offers i.3.stays p (without s.feed old) i.3.made i.2 i.3.judged.others (purged_offers i.1 t rest i.2 i.4 tail) q offers
      (subst (λ l. Contains l (q, offers)) i.3.new_is c)
]

pub purged_map : (s t : Purging) (m n : Map) → IsRetained is_over Purges s t m n → IsMap m → IsOrdered n → IsMap n
purged_map s t m n h is order = record {
  ordered = order;
  each = λ p offers e. purged_offers s t m n h (λ q others c. is.each q others ((pairs-found m q others is.ordered).0 c)) p offers
      ((pairs-found n p offers order).1 e);
}

-- the feed has no offer for the prefix
pub offers_missing : (s t : Purging) (old new : List Offer) → t.feed ≡ s.feed → t.remaining ≡ s.remaining → TakesOut old new s.feed Missing
    → IsOffers new → IsPurged s t old new true
offers_missing s t old new same as_many h lawful =
    let all : without s.feed old ≡ old =
    filter-all (λ o. not (is_from s.feed o)) old (λ k d l. not_from_false (is_from s.feed (get_or old k d)) (list_any-none (is_from s.feed) old h.1 k d l)) in
    record {
      same_feed = same;
      fewer = omega (arith, as_many, count-both (is_from s.feed) old, ap length all);
      others = (h.0 ∙ sym all, lawful);
    }

-- one less remains, if some remain
pub one_less : (n : ℕ) → eqb n 0 ≡ false → n - 1 + 1 ≡ n
one_less zero e = cc
one_less (suc n) e = omega arith

-- the feed has one of several offers
pub offers_gone : (s t : Purging) (old new : List Offer) → t.feed ≡ s.feed → t.remaining + 1 ≡ s.remaining → TakesOut old new s.feed Gone → IsOffers new
    → IsPurged s t old new true
offers_gone s t old new same fewer h lawful = record {
  same_feed = same;
  fewer = omega (arith, fewer, count-both (is_from s.feed) old, ap length h.0, h.2);
  others = (h.0, lawful);
}

-- the feed has the only offer
pub offers_last : (s t : Purging) (old new : List Offer) → t.feed ≡ s.feed → t.remaining + 1 ≡ s.remaining → TakesOut old new s.feed Last
    → IsPurged s t old new false
offers_last s t old new same fewer h =
    let o = h.1.0 in
    let none : without s.feed (o ∷ []) ≡ [] = rw h.1.2 refl in
    let one = count-both (is_from s.feed) (o ∷ []) in
    let nothing = ap length none in
    rw h.1.1 (record { same_feed = same; fewer = omega (arith, fewer, one, nothing); others = none })

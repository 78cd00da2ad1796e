-- The result of a look-up of all, in terms of the elements of the set.
use Rattle.std.proofs.Common.{◌≡◌, ◌≤◌, ◌⊎◌, Bool, true, false, inl, inr, List, [], ◌∷◌, ap, ◌∙◌, sym, subst, arith}
use Rattle.std.specs.Prelude.{◌↔◌, slice_get}
use Rattle.std.specs.List.{AllPairs, Contains}
use Rattle.std.proofs.lemmas.Bool.{both_ways, false_from_ne_true}
use Rattle.std.proofs.lemmas.List.Elements.{All-contains}
use Rattle.std.proofs.lemmas.List.Kept.{AllPairs-filter}
use Rattle.rt_cidr.specs.declared.address.Addr.{Addr}
use Rattle.rt_cidr.specs.Prefix.{covers}
use Rattle.rt_rib.specs.declared.routes.Route.{Route}
use Rattle.rt_rib.specs.Table.{is_better, is_of, IsTable}
use Rattle.rt_rib.specs.LookUp.{matching, look_up, beats, ranking, look_up_all}
use Rattle.rt_rib.specs.Laws.{IsBestMatch, AreAllMatches, LookUpAllFindsMatches}
use Rattle.rt_rib.proofs.Lists.{AllPairs-head, AllPairs-tail, AllPairs-put}
use Rattle.rt_rib.proofs.Order.{below_then-true, below_then-false, below_then-less, below_then-same, is_better-other, is_better-trans}
use Rattle.rt_rib.proofs.Order.{is_better-itself, is_of-from}
use Rattle.rt_rib.proofs.Tables.{Apart, Apart-flip}
use Rattle.rt_rib.proofs.Sets.{Contains-head, Contains-tail, Contains-cases, Contains-none, Contains-put, filter-keeps, filter-from, ordered_once}
use Rattle.rt_rib.proofs.Covering.{base_at, covers-base}
use Rattle.rt_rib.proofs.MapRoutes.{All-from_contained}
use Rattle.rt_rib.proofs.Best.{beats-itself, beats-trans, look_up_finds_best}

-- the first beats the second
abbrev pub Beats : Route → Route → Type 0
Beats r s = beats r s ≡ true

-- a ranking has the same routes as the list
ranking-contains : (routes : List Route) (x : Route) → Contains (ranking routes) x ↔ Contains routes x
ranking-contains [] x = ((λ c. c), (λ c. c))
ranking-contains (r ∷ others) x =
    let put = Contains-put (λ s. beats s r) (ranking others) r x in
    let rest = ranking-contains others x in (
      (λ c. elim (put.0 c) [
        | inl old ↦ Contains-tail r others x (rest.0 old)
        | inr same ↦ subst (λ z. Contains (z ∷ others) x) (sym same) (Contains-head x others)
      ]),
      (λ c. elim (Contains-cases r others x c) [ inl same ↦ put.1 (inr same) | inr later ↦ put.1 (inl (rest.1 later)) ]),
    )

module _ (addr : Addr) where
  -- if two matches differ in feed or prefix, one beats the other
  beats-other : (r s : Route) → covers r.prefix addr ≡ true → covers s.prefix addr ≡ true → is_of r.feed r.prefix s ≡ false → beats s r ≡ false
      → beats r s ≡ true
  beats-other r s c d other e =
      elim (below_then-false r.prefix.len s.prefix.len (is_better s r) e) [
        | inl less ↦ below_then-less s.prefix.len r.prefix.len (is_better r s) less
        | inr len ↦
            let base = covers-base s.prefix addr d ∙ ap (base_at addr) (sym len.0) ∙ sym (covers-base r.prefix addr c) in
            below_then-same s.prefix.len r.prefix.len (is_better r s) (sym len.0)
            (is_better-other r s len.1
            (λ f. both_ways (is_of r.feed r.prefix s) other (is_of-from r.feed r.prefix s f base (sym len.0))))
      ]

  -- hence a ranking of matches is in order
  ranking-ordered : (routes : List Route) → ((r : Route) → Contains routes r → covers r.prefix addr ≡ true) → AllPairs Apart routes
      → AllPairs Beats (ranking routes)
  ranking-ordered [] match apart = λ i j d l m. absurd (omega arith)
  ranking-ordered (r ∷ others) match apart =
      AllPairs-put beats beats-trans r (ranking others)
      (All-from_contained (λ s. beats s r ≡ false → beats r s ≡ true) (ranking others) (λ s c.
      let there = (ranking-contains others s).0 c in
      let differs = Apart-flip r s (All-contains (Apart r) others s (AllPairs-head Apart r others apart) there) in
      beats-other r s (match r (Contains-head r others)) (match s (Contains-tail r others s there)) differs))
      (ranking-ordered others (λ s c. match s (Contains-tail r others s c)) (AllPairs-tail Apart r others apart))

  -- a look-up of all finds the matches
  look_up_all_are : (t : List Route) → IsTable t → AreAllMatches addr t (look_up_all addr t)
  unfolding look_up_all
  look_up_all_are t table =
      let covering : Route → Bool = λ s. covers s.prefix addr in
      record {
        exactly = λ r. let same = ranking-contains (matching addr t) r in (
          (λ c. filter-from covering t r (same.0 c)),
          (λ c. same.1 (filter-keeps covering t r c.0 c.1)),
        );
        ordered =
            ranking-ordered (matching addr t) (λ r c. (filter-from covering t r c).1)
            (AllPairs-filter Apart covering t table.single);
      }

  -- there is only one list of them
  matches_once : (t m n : List Route) → AreAllMatches addr t m → AreAllMatches addr t n → m ≡ n
  matches_once t m n h k =
      ordered_once beats beats-itself beats-trans m n h.ordered k.ordered
      (λ x c. (k.exactly x).1 ((h.exactly x).0 c)) (λ x c. (h.exactly x).1 ((k.exactly x).0 c))

  -- a route that covers the address is the first match, or beaten by it
  first_or_beaten : (t : List Route) (r : Route) (rest : List Route) → AreAllMatches addr t (r ∷ rest) → (s : Route) → Contains t s → covers s.prefix addr ≡ true
      → (r ≡ s) ⊎ Beats r s
  first_or_beaten t r rest h s c e =
      elim (Contains-cases r rest s ((h.exactly s).1 (c, e))) [
        | inl same ↦ inl same
        | inr later ↦ inr (All-contains (Beats r) rest s (AllPairs-head Beats r rest h.ordered) later)
      ]

  -- hence the first match is the best
  first_is_best : (t : List Route) (r : Route) (rest : List Route) → AreAllMatches addr t (r ∷ rest) → IsBestMatch addr t r
  first_is_best t r rest h = record {
    contained = ((h.exactly r).0 (Contains-head r rest)).0;
    covering = ((h.exactly r).0 (Contains-head r rest)).1;
    longest = λ s c e. elim (first_or_beaten t r rest h s c e) [
      | inl same ↦ subst (λ z. z.prefix.len ≤ r.prefix.len) same (omega arith)
      | inr over ↦ elim (below_then-true s.prefix.len r.prefix.len (is_better r s) over) [
        | inl less ↦ omega arith
        | inr equal ↦ let len = equal.0 in omega arith
      ]
    ];
    best = λ s c e len. elim (first_or_beaten t r rest h s c e) [
      | inl same ↦ subst (λ z. is_better z r ≡ false) same (is_better-itself r)
      | inr over ↦ elim (below_then-true s.prefix.len r.prefix.len (is_better r s) over) [
        | inl less ↦ absurd (omega arith)
        | inr equal ↦ false_from_ne_true (is_better s r) (λ back. both_ways (is_better r r) (is_better-itself r) (is_better-trans r s r equal.1 back))
      ]
    ];
  }

  -- and it is the answer to a look-up
  first_match : (t matches : List Route) → IsTable t → AreAllMatches addr t matches → slice_get matches 0 ≡ look_up addr t
  first_match t [] table h =
      sym ((look_up_finds_best addr t table).1.1 (λ s c.
      false_from_ne_true (covers s.prefix addr) (λ e. Contains-none s ((h.exactly s).1 (c, e)))))
  first_match t (r ∷ rest) table h = sym (((look_up_finds_best addr t table).0 r).1 (first_is_best t r rest h))

pub look_up_all_finds_matches : LookUpAllFindsMatches
look_up_all_finds_matches addr t table =
    let are = look_up_all_are addr t table in (
      (λ matches. ((λ e. subst (AreAllMatches addr t) e are), (λ h. matches_once addr t (look_up_all addr t) matches are h))),
      first_match addr t (look_up_all addr t) table are,
    )

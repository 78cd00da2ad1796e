-- In a table, the first route to each prefix is the best one to that prefix.
use Rattle.std.proofs.Common.{◌≡◌, ◌<◌, ◌≤◌, ◌/◌, true, false, not, eqb, ◌⊎◌, inl, inr, List, [], ◌∷◌, length, get_or, refl, ap, ◌∙◌, sym, subst, arith}
use Rattle.std.specs.Prelude.{Bool, ◌&&◌, Option, Some, None}
use Rattle.std.proofs.lemmas.Bool.{cases_Bool, cond-true, cond-false, both_ways, false_from_ne_true, and_parts, and_from, not-true, not_from_false}
use Rattle.std.proofs.lemmas.Bool.{eqb-true, eq-eqb}
use Rattle.std.proofs.lemmas.List.Elements.{All-head, All-tail, All-contains, Contains-get_or}
use Rattle.std.proofs.lemmas.List.Filters.{All-dedup}
use Rattle.std.proofs.lemmas.List.Kept.{AllPairs-cons, AllPairs-filter, Contains-from_dedup}
use Rattle.std.specs.List.{AllPairs, Contains, dedup, filter, list_all}
use Rattle.rt_cidr.specs.declared.address.Addr.{Addr}
use Rattle.rt_cidr.specs.declared.prefixes.Prefix.{Prefix}
use Rattle.rt_cidr.specs.Cidr.{size_of}
use Rattle.rt_cidr.specs.Prefix.{covers, same_prefix}
use Rattle.rt_cidr.proofs.Promised.{prefix_by_parts}
use Rattle.rt_rib.specs.declared.routes.Route.{Route}
use Rattle.rt_rib.specs.Table.{is_better, is_of, precedes, IsTable}
use Rattle.rt_rib.specs.Order.{below_then}
use Rattle.rt_rib.specs.LookUp.{look_up, best_routes}
use Rattle.rt_rib.specs.Laws.{IsBestMatch, BestRoutesSuffice}
use Rattle.rt_rib.proofs.Lists.{AllPairs-head, AllPairs-tail}
use Rattle.rt_rib.proofs.Order.{below_then-true, is_better-itself, is_better-trans, is_of-from, even}
use Rattle.rt_rib.proofs.Tables.{Ordered, Apart}
use Rattle.rt_rib.proofs.Sets.{Contains-head, Contains-tail, Contains-cases, Contains-none, filter-keeps, filter-from, one_table_of_set}
use Rattle.rt_rib.proofs.Best.{list_all-contained, list_all-from_contained, look_up_finds_best}

module _ {X : Type 0} (R : X → X → Type 0) where
  -- the list without its second element
  AllPairs-skip : (k x : X) (xs : List X) → AllPairs R (k ∷ x ∷ xs) → AllPairs R (k ∷ xs)
  AllPairs-skip k x xs h = AllPairs-cons R k xs (All-tail (R k) x xs (AllPairs-head R k (x ∷ xs) h)) (AllPairs-tail R x xs (AllPairs-tail R k (x ∷ xs) h))

  -- a property of each two elements also holds for each two that remain
  AllPairs-dedup : (E : X → X → Bool) (k : X) (xs : List X) → AllPairs R (k ∷ xs) → AllPairs R (dedup E (k ∷ xs))
  AllPairs-dedup E k [] h = h
  AllPairs-dedup E k (x ∷ xs) h = elim (cases_Bool (E x k)) [
    | inl same ↦ subst (AllPairs R) (sym (cond-true (E x k) (dedup E (k ∷ xs)) (k ∷ dedup E (x ∷ xs)) same)) (AllPairs-dedup E k xs (AllPairs-skip k x xs h))
    | inr other ↦
        subst (AllPairs R) (sym (cond-false (E x k) (dedup E (k ∷ xs)) (k ∷ dedup E (x ∷ xs)) other))
        (AllPairs-cons R k (dedup E (x ∷ xs)) (All-dedup E (R k) (x ∷ xs) (AllPairs-head R k (x ∷ xs) h))
        (AllPairs-dedup E x xs (AllPairs-tail R k (x ∷ xs) h)))
  ]

-- true if two routes are to the same prefix
abbrev pub to_one : Route → Route → Bool
to_one r s = same_prefix r.prefix s.prefix

-- two routes to the same prefix have the same base and length
one-parts : (r s : Route) → to_one r s ≡ true → (r.prefix.base ≡ s.prefix.base) × (r.prefix.len ≡ s.prefix.len)
one-parts r s e =
    let both = and_parts (eqb r.prefix.base s.prefix.base) (eqb r.prefix.len s.prefix.len) e in
    (eqb-true r.prefix.base s.prefix.base both.0, eqb-true r.prefix.len s.prefix.len both.1)

-- two routes with the same base and length are to the same prefix
one-from : (r s : Route) → r.prefix.base ≡ s.prefix.base → r.prefix.len ≡ s.prefix.len → to_one r s ≡ true
one-from r s b l = and_from (eqb r.prefix.base s.prefix.base) (eqb r.prefix.len s.prefix.len) (eq-eqb r.prefix.base s.prefix.base b)
    (eq-eqb r.prefix.len s.prefix.len l)

-- two routes to the prefix of a third are to the same prefix
one-over : (r s t : Route) → to_one s r ≡ true → to_one s t ≡ true → to_one r t ≡ true
one-over r s t x y = let a = one-parts s r x in let b = one-parts s t y in one-from r t (sym a.0 ∙ b.0) (sym a.1 ∙ b.1)

-- if a route precedes another to the same prefix, it is better
better-first : (r s : Route) → precedes r s ≡ true → to_one s r ≡ true → is_better r s ≡ true
better-first r s e one =
    let parts = one-parts s r one in
    let base = parts.0 in
    let len = parts.1 in
    elim (below_then-true r.prefix.base s.prefix.base (below_then r.prefix.len s.prefix.len (is_better r s)) e) [
      | inl less ↦ absurd (omega arith)
      | inr same ↦ elim (below_then-true r.prefix.len s.prefix.len (is_better r s) same.1) [ inl shorter ↦ absurd (omega arith) | inr also ↦ also.1 ]
    ]

-- the base is lower, or it is the same and the length is at most the other's
abbrev IsUpTo : Prefix → Prefix → Type 0
IsUpTo p q = (p.base < q.base) ⊎ ((p.base ≡ q.base) × (p.len ≤ q.len))

up_to : (r s : Route) → precedes r s ≡ true → IsUpTo r.prefix s.prefix
up_to r s e = elim (below_then-true r.prefix.base s.prefix.base (below_then r.prefix.len s.prefix.len (is_better r s)) e) [
  | inl less ↦ inl less
  | inr same ↦ inr (
    same.0,
    elim (below_then-true r.prefix.len s.prefix.len (is_better r s) same.1)
        [ inl shorter ↦ omega arith | inr also ↦ let l = also.0 in omega arith ],
  )
]

-- a route between two routes to the same prefix is to that prefix too
one-between : (k x r : Route) → IsUpTo k.prefix x.prefix → IsUpTo x.prefix r.prefix → to_one k r ≡ true → to_one x k ≡ true
one-between k x r low high one =
    let parts = one-parts k r one in
    let base = parts.0 in
    let len = parts.1 in
    elim low [
      | inl a ↦ elim high [ inl b ↦ absurd (omega arith) | inr b ↦ let c = b.0 in absurd (omega arith) ]
      | inr a ↦ elim high [
        | inl b ↦ let c = a.0 in absurd (omega arith)
        | inr b ↦ let c = a.0 in let d = a.1 in let f = b.0 in let g = b.1 in one-from x k (omega arith) (omega arith)
      ]
    ]

-- no route to its prefix is better than a route that remains
kept-best : (k : Route) (xs : List Route) → AllPairs Ordered (k ∷ xs) → (r s : Route) → Contains (dedup to_one (k ∷ xs)) r → Contains (k ∷ xs) s
    → to_one s r ≡ true → is_better s r ≡ false
kept-best k [] h r s c d e = elim (Contains-cases k [] r c) [
  | inr none ↦ absurd (Contains-none r none)
  | inl here ↦ elim (Contains-cases k [] s d) [
    | inr none ↦ absurd (Contains-none s none)
    | inl also ↦ subst (λ z. is_better z r ≡ false) also (subst (λ z. is_better k z ≡ false) here (is_better-itself k))
  ]
]
kept-best k (x ∷ xs) h r s c d e =
    let first = AllPairs-head Ordered k (x ∷ xs) h in
    let next = All-head (Ordered k) x xs first in
    elim (cases_Bool (to_one x k)) [
      | inl same ↦
          let deduped = subst (λ l. Contains l r) (cond-true (to_one x k) (dedup to_one (k ∷ xs)) (k ∷ dedup to_one (x ∷ xs)) same) c in
          let rest = kept-best k xs (AllPairs-skip Ordered k x xs h) r in
          elim (Contains-cases k (x ∷ xs) s d) [
            | inl here ↦ rest s deduped (subst (Contains (k ∷ xs)) here (Contains-head k xs)) e
            | inr later ↦ elim (Contains-cases x xs s later) [
              | inl here ↦
                  let one : to_one x r ≡ true = ap (λ z. to_one z r) here ∙ e in
                  let none = rest k deduped (Contains-head k xs) (one-over k x r same one) in
                  false_from_ne_true (is_better s r) (λ yes.
                  both_ways (is_better k r) none (is_better-trans k x r (better-first k x next same) (ap (λ z. is_better z r) here ∙ yes)))
              | inr behind ↦ rest s deduped (Contains-tail k xs s behind) e
            ]
          ]
      | inr other ↦
          let deduped = subst (λ l. Contains l r) (cond-false (to_one x k) (dedup to_one (k ∷ xs)) (k ∷ dedup to_one (x ∷ xs)) other) c in
          elim (Contains-cases k (dedup to_one (x ∷ xs)) r deduped) [
            | inl top ↦ elim (Contains-cases k (x ∷ xs) s d) [
              | inl here ↦ subst (λ z. is_better z r ≡ false) here (subst (λ z. is_better k z ≡ false) top (is_better-itself k))
              | inr later ↦
                  let before : precedes k s ≡ true = All-contains (Ordered k) (x ∷ xs) s first later in
                  let better = better-first k s before (ap (to_one s) top ∙ e) in
                  subst (λ z. is_better s z ≡ false) top
                  (false_from_ne_true (is_better s k) (λ yes. both_ways (is_better k k) (is_better-itself k) (is_better-trans k s k better yes)))
            ]
            | inr kept ↦ elim (Contains-cases k (x ∷ xs) s d) [
              | inl here ↦
                  let after : IsUpTo x.prefix r.prefix =
                  elim (Contains-cases x xs r (Contains-from_dedup to_one (x ∷ xs) r kept)) [
                    | inl same ↦ subst (λ z. IsUpTo x.prefix z.prefix) same (inr (refl, omega arith))
                    | inr behind ↦ up_to x r (All-contains (Ordered x) xs r (AllPairs-head Ordered x xs (AllPairs-tail Ordered k (x ∷ xs) h)) behind)
                  ] in
                  absurd (both_ways (to_one x k) other (one-between k x r (up_to k x next) after (ap (λ z. to_one z r) here ∙ e)))
              | inr later ↦ kept-best x xs (AllPairs-tail Ordered k (x ∷ xs) h) r s kept later e
            ]
          ]
    ]

-- a route remains if no route to its prefix is better
best-kept : (k : Route) (xs : List Route) → AllPairs Ordered (k ∷ xs) → (r : Route) → Contains (k ∷ xs) r
    → ((s : Route) → Contains (k ∷ xs) s → to_one s r ≡ true → is_better s r ≡ false) → Contains (dedup to_one (k ∷ xs)) r
best-kept k [] h r c best = c
best-kept k (x ∷ xs) h r c best =
    let next = All-head (Ordered k) x xs (AllPairs-head Ordered k (x ∷ xs) h) in
    elim (cases_Bool (to_one x k)) [
      | inl same ↦
          let rest : Contains (k ∷ xs) r → Contains (dedup to_one (k ∷ xs)) r =
          λ d. best-kept k xs (AllPairs-skip Ordered k x xs h) r d (λ s i e. best s (elim (Contains-cases k xs s i) [
            | inl here ↦ subst (Contains (k ∷ x ∷ xs)) here (Contains-head k (x ∷ xs))
            | inr behind ↦ Contains-tail k (x ∷ xs) s (Contains-tail x xs s behind)
          ]) e) in
          subst (λ l. Contains l r) (sym (cond-true (to_one x k) (dedup to_one (k ∷ xs)) (k ∷ dedup to_one (x ∷ xs)) same))
          (elim (Contains-cases k (x ∷ xs) r c) [
            | inl here ↦ rest (subst (Contains (k ∷ xs)) here (Contains-head k xs))
            | inr later ↦ elim (Contains-cases x xs r later) [
              | inl here ↦
                  let none = best k (Contains-head k (x ∷ xs)) (subst (λ z. to_one k z ≡ true) here (one-over k x x same (one-from x x refl refl))) in
                  absurd (both_ways (is_better k r) none (subst (λ z. is_better k z ≡ true) here (better-first k x next same)))
              | inr behind ↦ rest (Contains-tail k xs r behind)
            ]
          ])
      | inr other ↦
          subst (λ l. Contains l r) (sym (cond-false (to_one x k) (dedup to_one (k ∷ xs)) (k ∷ dedup to_one (x ∷ xs)) other))
          (elim (Contains-cases k (x ∷ xs) r c) [
            | inl here ↦ subst (Contains (k ∷ dedup to_one (x ∷ xs))) here (Contains-head k (dedup to_one (x ∷ xs)))
            | inr later ↦ Contains-tail k (dedup to_one (x ∷ xs)) r
                (best-kept x xs (AllPairs-tail Ordered k (x ∷ xs) h) r later (λ s d. best s (Contains-tail k (x ∷ xs) s d)))
          ])
    ]

-- a route is better than another to the same prefix
abbrev surpasses : Route → Route → Bool
surpasses s r = to_one s r && is_better s r

-- no route of the table surpasses one of its best routes
unbeaten : (t : List Route) (r s : Route) → Contains (best_routes t) r → Contains t s → to_one s r ≡ true → is_better s r ≡ false
unbeaten t r s c d one =
    let passes = (filter-from (λ (r : Route). list_all (λ (s : Route). not (surpasses s r)) t) t r c).1 in
    false_from_ne_true (is_better s r) (λ yes.
    both_ways (surpasses s r) (not-true (surpasses s r) (list_all-contained (λ (s : Route). not (surpasses s r)) t s passes d))
    (and_from (to_one s r) (is_better s r) one yes))

-- the routes that remain are the best routes
pub dedup-best : (t : List Route) → IsTable t → dedup to_one t ≡ best_routes t
dedup-best [] h = refl
dedup-best (k ∷ xs) h =
    let t = k ∷ xs in
    let is_best = λ (r : Route). list_all (λ (s : Route). not (surpasses s r)) t in
    one_table_of_set (dedup to_one t) (best_routes t)
    (record { ordered = AllPairs-dedup Ordered to_one k xs h.ordered; single = AllPairs-dedup Apart to_one k xs h.single })
    (record { ordered = AllPairs-filter Ordered is_best t h.ordered; single = AllPairs-filter Apart is_best t h.single })
    (λ r. (
      (λ c.
          filter-keeps is_best t r (Contains-from_dedup to_one t r c)
          (list_all-from_contained (λ (s : Route). not (surpasses s r)) t (λ s d. not_from_false (surpasses s r) (false_from_ne_true (surpasses s r) (λ yes.
          let parts = and_parts (to_one s r) (is_better s r) yes in
          both_ways (is_better s r) (kept-best k xs h.ordered r s c d parts.0) parts.1))))),
      (λ c. let from = filter-from is_best t r c in best-kept k xs h.ordered r from.0 (λ s. unbeaten t r s c)),
    ))

-- the best routes of a table are a table
IsTable-best : (t : List Route) → IsTable t → IsTable (best_routes t)
IsTable-best t h =
    let is_best = λ (r : Route). list_all (λ (s : Route). not (surpasses s r)) t in
    record { ordered = AllPairs-filter Ordered is_best t h.ordered; single = AllPairs-filter Apart is_best t h.single }

-- filtering by prefix keeps the best routes of the prefixes that pass
module _ (t : Prefix → Bool) where
  -- a table's routes that pass
  abbrev passing : List Route → List Route
  passing table = filter (λ r. t r.prefix) table

  pub IsTable-passing : (table : List Route) → IsTable table → IsTable (passing table)
  IsTable-passing table h = record {
    ordered = AllPairs-filter Ordered (λ r. t r.prefix) table h.ordered;
    single = AllPairs-filter Apart (λ r. t r.prefix) table h.single;
  }

  -- a route that surpasses one that passes, passes too
  passes_too : (s r : Route) → surpasses s r ≡ true → t r.prefix ≡ true → t s.prefix ≡ true
  passes_too s r better e =
      let parts = one-parts s r (and_parts (to_one s r) (is_better s r) better).0 in
      ap t (prefix_by_parts s.prefix r.prefix parts.0 parts.1) ∙ e

  pub best_passing : (table : List Route) → IsTable table → best_routes (passing table) ≡ passing (best_routes table)
  best_passing table h =
      let beats_none = λ (xs : List Route) (r : Route). list_all (λ (s : Route). not (surpasses s r)) xs in
      one_table_of_set (best_routes (passing table)) (passing (best_routes table)) (IsTable-best (passing table) (IsTable-passing table h))
      (IsTable-passing (best_routes table) (IsTable-best table h))
      (λ r. (
        (λ c.
            let best = filter-from (beats_none (passing table)) (passing table) r c in
            let there = filter-from (λ r. t r.prefix) table r best.0 in
            filter-keeps (λ r. t r.prefix) (best_routes table) r
            (filter-keeps (beats_none table) table r there.0
            (list_all-from_contained (λ (s : Route). not (surpasses s r)) table (λ s d.
            not_from_false (surpasses s r) (false_from_ne_true (surpasses s r) (λ better.
            let passes = filter-keeps (λ r. t r.prefix) table s d (passes_too s r better there.1) in
            both_ways (surpasses s r)
            (not-true (surpasses s r) (list_all-contained (λ (s : Route). not (surpasses s r)) (passing table) s best.1 passes)) better)))))
            there.1),
        (λ c.
            let there = filter-from (λ r. t r.prefix) (best_routes table) r c in
            let best = filter-from (beats_none table) table r there.0 in
            filter-keeps (beats_none (passing table)) (passing table) r (filter-keeps (λ r. t r.prefix) table r best.0 there.1)
            (list_all-from_contained (λ (s : Route). not (surpasses s r)) (passing table) (λ s d.
            list_all-contained (λ (s : Route). not (surpasses s r)) table s best.1 (filter-from (λ r. t r.prefix) table s d).0))),
      ))

-- the best routes of a table are in the table
from_table : (t : List Route) (r : Route) → Contains (best_routes t) r → Contains t r
from_table t r c = (filter-from (λ (r : Route). list_all (λ (s : Route). not (surpasses s r)) t) t r c).0

-- routes to the same prefix cover the same addresses
covers-one : (addr : Addr) (s r : Route) → to_one s r ≡ true → covers s.prefix addr ≡ covers r.prefix addr
covers-one addr s r one =
    let parts = one-parts s r one in
    ap (λ len. eqb (addr.0 / size_of len) (s.prefix.base / size_of len)) parts.1
    ∙ ap (λ base. eqb (addr.0 / size_of r.prefix.len) (base / size_of r.prefix.len)) parts.0

-- the best match of a table is one of its best routes, and is the best match among them
best_among : (addr : Addr) (t : List Route) (r : Route) → IsBestMatch addr t r → IsBestMatch addr (best_routes t) r
best_among addr t r h =
    let unsurpassed : (s : Route) → Contains t s → not (surpasses s r) ≡ true =
    λ s d. not_from_false (surpasses s r) (false_from_ne_true (surpasses s r) (λ yes.
    let parts = and_parts (to_one s r) (is_better s r) yes in
    both_ways (is_better s r) (h.best s d (covers-one addr s r parts.0 ∙ h.covering) (one-parts s r parts.0).1) parts.1)) in
    record {
      contained = filter-keeps (λ (r : Route). list_all (λ (s : Route). not (surpasses s r)) t) t r h.contained
          (list_all-from_contained (λ (s : Route). not (surpasses s r)) t unsurpassed);
      covering = h.covering;
      longest = λ s c. h.longest s (from_table t s c);
      best = λ s c. h.best s (from_table t s c);
    }

-- two different best routes of a table are to different prefixes
best_apart : (t : List Route) (r s : Route) → Contains (best_routes t) r → Contains (best_routes t) s → Apart r s
    → same_prefix r.prefix s.prefix ≡ false
best_apart t r s c d apart = false_from_ne_true (same_prefix r.prefix s.prefix) (λ one.
    let parts = one-parts r s one in
    let other = one-from s r (sym parts.0) (sym parts.1) in
    let feed = even r s (unbeaten t s r d (from_table t r c) one) (unbeaten t r s c (from_table t s d) other) in
    both_ways (is_of s.feed s.prefix r) apart (is_of-from s.feed s.prefix r (sym feed) parts.0 parts.1))

pub best_routes_suffice : BestRoutesSuffice
best_routes_suffice = record {
  single = λ t h i j d l m.
      let inside : i < length (best_routes t) = omega arith in
      best_apart t (get_or (best_routes t) i d) (get_or (best_routes t) j d) (Contains-get_or (best_routes t) i d inside)
      (Contains-get_or (best_routes t) j d m) ((IsTable-best t h).single i j d l m);
  answers = λ addr t h. by_answer addr t h (look_up addr t) refl;
} where
  -- by the answer in the table
  by_answer : (addr : Addr) (t : List Route) → IsTable t → (found : Option Route) → look_up addr t ≡ found → look_up addr (best_routes t) ≡ found
  by_answer addr t h None e = (look_up_finds_best addr (best_routes t) (IsTable-best t h)).1.1 (λ s c.
      (look_up_finds_best addr t h).1.0 e s (from_table t s c))
  by_answer addr t h (Some r) e =
      ((look_up_finds_best addr (best_routes t) (IsTable-best t h)).0 r).1 (best_among addr t r (((look_up_finds_best addr t h).0 r).0 e))

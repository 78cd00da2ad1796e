-- The counts of a table's routes, as routes are inserted and removed.
use Rattle.std.proofs.Common.{◌≡◌, ℕ, ◌+◌, ◌-◌, ◌*◌, ◌<◌, ◌≤◌, Bool, true, false, not, cond, eqb, List, [], ◌∷◌, length, length-append, get_or, replicate}
use Rattle.std.proofs.Common.{refl, sym, subst, ap, ◌∙◌, get_or-set_same, get_or-set_other, inl, inr, arith}
use Rattle.std.proofs.Math.ListN.{set, length-set}
use Rattle.std.proofs.lemmas.Bool.{cases_eq, eq-eqb, ne_eqb, cases_Bool, both_ways, false_from_ne_true, not_from_false, eqb-true, cond-true, cond-false}
use Rattle.std.proofs.lemmas.List.Sums.{sum_by-cons, sum_by-set, sum_by-le, sum_by-append, length-filter}
use Rattle.std.proofs.lemmas.List.Filters.{sum_by-filter_both}
use Rattle.std.proofs.lemmas.List.Folds.{Any-from_list_any}
use Rattle.std.proofs.lemmas.List.{get_or_default, get_or-replicate, length-replicate}
use Rattle.std.specs.List.{All, Contains, filter, count_by}
use Rattle.rt_cidr.specs.declared.prefixes.Prefix.{Prefix}
use Rattle.rt_rib.specs.declared.routes.Route.{Route}
use Rattle.rt_rib.specs.declared.limits.TheConstants.{MAX_FEEDS}
use Rattle.rt_rib.specs.Table.{count_of, precedes, is_of, has, put_in, take_out, purge, IsTable}
use Rattle.rt_rib.specs.Book.{IsFeed}
use Rattle.rt_rib.specs.inside.TableState.{AreCounts}
use Rattle.rt_rib.proofs.Lists.{list_any-from_none}
use Rattle.rt_rib.proofs.Order.{is_of-parts, is_of-from}
use Rattle.rt_rib.proofs.Sets.{put_in_adds, take_out_leaves_others, one_table_of_set}
use Rattle.rt_rib.proofs.Best.{one_of}
use Rattle.rt_rib.proofs.Tables.{IsTable-put_in, IsTable-take_out}
use Rattle.rt_rib.proofs.MapRoutes.{All-from_contained}

-- u has one route of the feed more than t, and the same number of every other feed
pub record HasMore (feed : ℕ) (t u : List Route) : Type 0 where
  pub own : count_of feed u ≡ count_of feed t + 1
  pub others : (other : ℕ) → (other ≡ feed → ⊥) → count_of other u ≡ count_of other t
  pub all : length u ≡ length t + 1

-- the same, from the route that makes the difference
HasMore-from : (feed : ℕ) (r : Route) (t u : List Route) → r.feed ≡ feed → ((other : ℕ) → count_of other u ≡ count_of other t + cond (eqb r.feed other) 1 0)
    → length u ≡ length t + 1 → HasMore feed t u
HasMore-from feed r t u same each longer = record {
  own = let more = each feed in let one : cond (eqb r.feed feed) 1 0 ≡ ◌+◌ 1 0 = cond-true (eqb r.feed feed) 1 0 (eq-eqb r.feed feed same) in omega arith;
  others = λ other differs. let more = each other in let none : cond (eqb r.feed other) 1 0 ≡ ◌+◌ 0 0 =
      cond-false (eqb r.feed other) 1 0 (ne_eqb r.feed other (λ e. differs (omega arith))) in omega arith;
  all = longer;
}

module _ {X : Type 0} (p : X → Bool) where
  -- no element that fails a test satisfies it
  count-failing : (xs : List X) → count_by p (filter (λ x. not (p x)) xs) ≡ 0
  count-failing [] = refl
  count-failing (x ∷ xs) =
      let rest = count-failing xs in
      elim (cases_Bool (p x)) [
        | inl goes ↦ rw goes rest
        | inr stays ↦
            let none : cond (p x) 1 0 ≡ ◌+◌ 0 0 = cond-false (p x) 1 0 stays in
            let whole = sum_by-cons (λ z. cond (p z) 1 0) x (filter (λ z. not (p z)) xs) in
            rw stays (omega arith)
      ]

  -- a filter keeps all elements that satisfy a test, if that test implies the filter's
  count-kept_whole : (q : X → Bool) → ((x : X) → q x ≡ true → p x ≡ true) → (xs : List X) → count_by q (filter p xs) ≡ count_by q xs
  count-kept_whole q only [] = refl
  count-kept_whole q only (x ∷ xs) =
      let rest = count-kept_whole q only xs in
      let one : X → ℕ = λ z. cond (q z) 1 0 in
      let whole = sum_by-cons one x xs in
      elim (cases_Bool (p x)) [
        | inl stays ↦ let kept = sum_by-cons one x (filter p xs) in rw stays (omega arith)
        | inr goes ↦
            let other : q x ≡ false = false_from_ne_true (q x) (λ e. both_ways (p x) goes (only x e)) in
            let none : one x ≡ ◌+◌ 0 0 = cond-false (q x) 1 0 other in
            rw goes (omega arith)
      ]

  -- the elements that satisfy a test and those that fail it are all elements
  pub count-both : (xs : List X) → length xs ≡ length (filter (λ x. not (p x)) xs) + count_by p xs
  count-both [] = refl
  count-both (x ∷ xs) =
      let rest = count-both xs in
      let whole = sum_by-cons (λ z. cond (p z) 1 0) x xs in
      let kept = filter (λ z. not (p z)) xs in
      elim (cases_Bool (p x)) [
        | inl goes ↦
            let one : cond (p x) 1 0 ≡ ◌+◌ 1 0 = cond-true (p x) 1 0 goes in
            let list = ap length (cond-false (not (p x)) (x ∷ kept) kept (ap not goes)) in
            omega arith
        | inr stays ↦
            let none : cond (p x) 1 0 ≡ ◌+◌ 0 0 = cond-false (p x) 1 0 stays in
            let list = ap length (cond-true (not (p x)) (x ∷ kept) kept (ap not stays)) in
            omega arith
      ]

-- the insertion of a route
pub HasMore-put_in : (r : Route) (t : List Route) → HasMore r.feed t (put_in r t)
HasMore-put_in r t =
    let early : Route → Bool = λ s. precedes s r in
    let late : Route → Bool = λ s. not (precedes s r) in
    HasMore-from r.feed r t (put_in r t) refl
    (λ other.
    let one : Route → ℕ = λ s. cond (eqb s.feed other) 1 0 in
    let joined = sum_by-append one (filter early t) (r ∷ filter late t) in
    let first = sum_by-cons one r (filter late t) in
    let both = sum_by-filter_both early late (λ s. refl) one t in
    omega arith)
    (let joined = length-append (filter early t) (r ∷ filter late t) in
    let all = count-both early t in
    let kept = length-filter early t in
    omega arith)

-- the removal of a feed's route
pub HasMore-take_out : (feed : ℕ) (p : Prefix) (t : List Route) → IsTable t → has feed p t ≡ true → HasMore feed (take_out feed p t) t
HasMore-take_out feed p t table there =
    let any = Any-from_list_any (is_of feed p) t there in
    let r = any.1 in
    let held : Contains t r = (any.0, any.2, any.3) in
    let parts = is_of-parts feed p r any.4 in
    let rest = take_out feed p t in
    let fresh : has r.feed r.prefix rest ≡ false =
    list_any-from_none (is_of r.feed r.prefix) rest (All-from_contained (λ s. is_of r.feed r.prefix s ≡ false) rest (λ s c.
    let out = (take_out_leaves_others feed p s t).0 c in
    false_from_ne_true (is_of r.feed r.prefix s) (λ mine.
    let same = is_of-parts r.feed r.prefix s mine in
    both_ways (is_of feed p s) out.1 (is_of-from feed p s (same.0 ∙ parts.0) (same.1 ∙ parts.1) (same.2 ∙ parts.2))))) in
    let back : put_in r rest ≡ t =
    one_table_of_set (put_in r rest) t (IsTable-put_in r rest fresh (IsTable-take_out feed p t table)) table (λ s. (
      (λ c. elim ((put_in_adds r s rest).0 c) [ inl there ↦ ((take_out_leaves_others feed p s t).0 there).0 | inr here ↦ subst (Contains t) here held ]),
      (λ c. (put_in_adds r s rest).1 (elim (cases_Bool (is_of feed p s)) [
        | inl mine ↦
            let same = is_of-parts feed p s mine in
            inr (sym (one_of t table.single r s held c (is_of-from r.feed r.prefix s (same.0 ∙ sym parts.0) (same.1 ∙ sym parts.1) (same.2 ∙ sym parts.2))))
        | inr other ↦ inl ((take_out_leaves_others feed p s t).1 (c, other))
      ])),
    )) in
    subst (λ f. HasMore f rest t) parts.0 (subst (HasMore r.feed rest) back (HasMore-put_in r rest))

-- two lists that have one route of the feed more than a third have the same number of routes of each feed
pub HasMore-both : (feed : ℕ) (t u v : List Route) → HasMore feed t u → HasMore feed t v → (other : ℕ) → count_of other v ≡ count_of other u
HasMore-both feed t u v m n other = elim (cases_eq other feed) [
  | inl same ↦ ap (λ f. count_of f v) same ∙ n.own ∙ sym m.own ∙ ap (λ f. count_of f u) (sym same)
  | inr differs ↦ n.others other differs ∙ sym (m.others other differs)
]

-- the count of a feed is stored at its number minus 1
pub AreCounts-own : (limit : ℕ) (counts : List ℕ) (t : List Route) (feed : ℕ) → AreCounts limit counts t → IsFeed feed
    → get_or counts (feed - 1) 0 ≡ count_of feed t
AreCounts-own limit counts t feed h is =
    let low = is.0 in
    let high = is.1 in
    let at : feed - 1 + 1 ≡ feed = omega arith in
    h.each (feed - 1) (omega arith) ∙ ap (λ f. count_of f t) at

module _ (limit : ℕ) (counts : List ℕ) (t u : List Route) (own : ℕ) (inside : own < MAX_FEEDS) (many : length counts ≡ MAX_FEEDS) where
  -- the feed's count, increased by 1, if it has one route more
  pub AreCounts-more : AreCounts limit counts t → HasMore (own + 1) t u → get_or counts own 0 < limit
      → AreCounts limit (set counts own (get_or counts own 0 + 1)) u
  AreCounts-more h more room = record {
    many = length-set counts own (get_or counts own 0 + 1) ∙ many;
    each = λ i l. elim (cases_eq i own) [
      | inl same ↦
          let now = h.each own inside in
          let there = get_or-set_same counts own (get_or counts own 0 + 1) 0 (omega arith) in
          let at = ap (λ k. get_or (set counts own (get_or counts own 0 + 1)) k 0) same in
          let of = ap (λ k. count_of (k + 1) u) same in
          at ∙ there ∙ ap (λ n. n + 1) now ∙ sym more.own ∙ sym of
      | inr other ↦ get_or-set_other counts own i (get_or counts own 0 + 1) 0 other ∙ h.each i l ∙ sym (more.others (i + 1) (λ e. other (omega arith)))
    ];
    within = λ i l. elim (cases_eq i own) [
      | inl same ↦
          let there = get_or-set_same counts own (get_or counts own 0 + 1) 0 (omega arith) in
          let at = ap (λ k. get_or (set counts own (get_or counts own 0 + 1)) k 0) same in
          omega arith
      | inr other ↦ let there = get_or-set_other counts own i (get_or counts own 0 + 1) 0 other in let low = h.within i l in omega arith
    ];
    all = let total = sum_by-set (λ x. x) counts own (get_or counts own 0 + 1) 0 (omega arith) in let before = h.all in let after = more.all in omega arith;
  }

  -- the feed's count, decreased by 1, if it has one route less
  pub AreCounts-less : AreCounts limit counts t → HasMore (own + 1) u t → AreCounts limit (set counts own (get_or counts own 0 - 1)) u
  AreCounts-less h more = record {
    many = length-set counts own (get_or counts own 0 - 1) ∙ many;
    each = λ i l. elim (cases_eq i own) [
      | inl same ↦
          let now = h.each own inside in
          let there = get_or-set_same counts own (get_or counts own 0 - 1) 0 (omega arith) in
          let at = ap (λ k. get_or (set counts own (get_or counts own 0 - 1)) k 0) same in
          let of = ap (λ k. count_of (k + 1) u) same in
          let fewer = more.own in
          let down : get_or counts own 0 - 1 ≡ count_of (own + 1) u = omega arith in
          at ∙ there ∙ down ∙ sym of
      | inr other ↦ get_or-set_other counts own i (get_or counts own 0 - 1) 0 other ∙ h.each i l ∙ more.others (i + 1) (λ e. other (omega arith))
    ];
    within = λ i l. elim (cases_eq i own) [
      | inl same ↦
          let there = get_or-set_same counts own (get_or counts own 0 - 1) 0 (omega arith) in
          let at = ap (λ k. get_or (set counts own (get_or counts own 0 - 1)) k 0) same in
          let low = h.within own inside in
          omega arith
      | inr other ↦ let there = get_or-set_other counts own i (get_or counts own 0 - 1) 0 other in let low = h.within i l in omega arith
    ];
    all =
        let total = sum_by-set (λ x. x) counts own (get_or counts own 0 - 1) 0 (omega arith) in
        let before = h.all in
        let after = more.all in
        let now = h.each own inside in
        let fewer = more.own in
        omega arith;
  }

  -- the feed's count is 0 after all of its routes were removed
  pub AreCounts-purged : AreCounts limit counts t → u ≡ purge (own + 1) t → AreCounts limit (set counts own 0) u
  AreCounts-purged h is =
      let p : Route → Bool = λ r. eqb r.feed (own + 1) in
      record {
        many = length-set counts own 0 ∙ many;
        each = λ i l. elim (cases_eq i own) [
          | inl same ↦
              ap (λ k. get_or (set counts own 0) k 0) same ∙ get_or-set_same counts own 0 0 (omega arith)
              ∙ sym (ap (λ k. count_of (k + 1) u) same ∙ ap (count_of (own + 1)) is ∙ count-failing p t)
          | inr other ↦
              get_or-set_other counts own i 0 0 other ∙ h.each i l
              ∙ sym (ap (count_of (i + 1)) is ∙ count-kept_whole (λ r. not (p r)) (λ r. eqb r.feed (i + 1)) (λ r e.
              not_from_false (p r) (ne_eqb r.feed (own + 1) (λ same. other (let mine = eqb-true r.feed (i + 1) e in omega arith)))) t)
        ];
        within = λ i l. elim (cases_eq i own) [
          | inl same ↦
              let there = get_or-set_same counts own 0 0 (omega arith) in
              let at = ap (λ k. get_or (set counts own 0) k 0) same in
              omega arith
          | inr other ↦ let there = get_or-set_other counts own i 0 0 other in let low = h.within i l in omega arith
        ];
        all = omega (
          arith,
          sum_by-set (λ x. x) counts own 0 0 (omega arith),
          h.all,
          h.each own inside,
          count-both p t,
          ap length is,
        );
      }

-- the same number of routes of each feed
pub AreCounts-same : (limit : ℕ) (counts : List ℕ) (t u : List Route) → AreCounts limit counts t → ((feed : ℕ) → count_of feed u ≡ count_of feed t)
    → length u ≡ length t → AreCounts limit counts u
AreCounts-same limit counts t u h each all = record {
  many = h.many;
  each = λ i l. h.each i l ∙ sym (each (i + 1));
  within = h.within;
  all = h.all ∙ sym all;
}

-- the table has at most as many routes as the feeds' limits add up to
pub AreCounts-length : (limit : ℕ) (counts : List ℕ) (t : List Route) → AreCounts limit counts t → length t ≤ MAX_FEEDS * limit
AreCounts-length limit counts t h =
    let many = h.many in
    let low : All (λ x. x ≤ limit) counts = λ k d l. let same = get_or_default counts k d 0 l in let within = h.within k (omega arith) in omega arith in
    let most = sum_by-le (λ x. x) limit counts low in
    let product = ap (λ n. n * limit) many in
    let all = h.all in
    omega arith

-- each of `n` zeros is within any limit
zero_at : (n i limit : ℕ) → i < n → get_or (replicate n 0) i 0 ≤ limit
zero_at n i limit l = rw (get_or-replicate {A = ℕ} n i 0 0 l) (omega arith)

-- no routes, so every feed's count is 0
pub AreCounts-nil : (limit : ℕ) → AreCounts limit (replicate MAX_FEEDS 0) []
AreCounts-nil limit = record {
  many = length-replicate {A = ℕ} MAX_FEEDS 0;
  each = λ i l. get_or-replicate MAX_FEEDS i 0 0 l;
  within = λ i l. zero_at MAX_FEEDS i limit l;
  all = refl;
}

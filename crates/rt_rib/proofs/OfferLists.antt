-- Inserting into and removing from an ordered list of offers.
use Rattle.std.proofs.Common.{◌≡◌, ℕ, zero, suc, ◌+◌, ◌<◌, ◌≤◌, Bool, true, false, not, ltb, ◌⊎◌, ◌↔◌, inl, inr, List, [], ◌∷◌, length, get_or, Some, None}
use Rattle.std.proofs.Common.{refl, ap, ◌∙◌, sym, subst, arith}
use Rattle.std.proofs.lemmas.Bool.{both_ways, cond-true, cond-false, not-true, not_from_true, not_from_false, false_from_ne_true, lt-ltb, eqb-true, eq-eqb}
use Rattle.std.proofs.lemmas.Bool.{cases_lt}
use Rattle.std.proofs.lemmas.List.Elements.{All-cons, All-head, All-tail, All-nil, All-weaker, AllWithin-more, filter_passes}
use Rattle.std.proofs.lemmas.List.{get_or_default}
use Rattle.std.proofs.lemmas.List.Kept.{AllPairs-cons}
use Rattle.std.proofs.lemmas.List.Quantifiers.{position-Some, all_pairs_remove}
use Rattle.std.proofs.lemmas.List.Sums.{fails_before_first}
use Rattle.std.specs.List.{All, AllPairs, AllWithin, Contains, filter, insert, remove, list_any, position, position_or_len}
use Rattle.std.specs.Prelude.{is_some, Option}
use Rattle.rt_rib.specs.declared.offers.Offer.{Offer}
use Rattle.rt_rib.specs.Maps.{outranks, is_from, IsRanked}
use Rattle.rt_rib.specs.inside.Offers.{IsInsertionIndex, HasGained, HasSwapped, without}
use Rattle.rt_rib.proofs.Lists.{AllPairs-head, AllPairs-tail, filter-all, list_any-from_none, list_any-at}
use Rattle.rt_rib.proofs.Order.{outranks-trans, outranks-other}
use Rattle.rt_rib.proofs.Sets.{Contains-head, Contains-tail, Contains-cases, Contains-none, filter-keeps, filter-from}

module _ {X : Type 0} where
  -- the elements of a list after an insertion
  pub Contains-insert : (xs : List X) (i : ℕ) (y x : X) → i ≤ length xs → Contains (insert xs i y) x ↔ (Contains xs x ⊎ (y ≡ x))
  Contains-insert [] zero y x l = (
    (λ c. elim (Contains-cases y [] x c) [ inl here ↦ inr here | inr none ↦ absurd (Contains-none x none) ]),
    (λ c. elim c [ inl none ↦ absurd (Contains-none x none) | inr here ↦ subst (Contains (y ∷ [])) here (Contains-head y []) ]),
  )
  Contains-insert [] (suc i) y x l = absurd (omega arith)
  Contains-insert (z ∷ xs) zero y x l = (
    (λ c. elim (Contains-cases y (z ∷ xs) x c) [ inl here ↦ inr here | inr later ↦ inl later ]),
    (λ c. elim c [ inl old ↦ Contains-tail y (z ∷ xs) x old | inr here ↦ subst (Contains (y ∷ z ∷ xs)) here (Contains-head y (z ∷ xs)) ]),
  )
  Contains-insert (z ∷ xs) (suc i) y x l =
      let rest = Contains-insert xs i y x (omega arith) in (
        (λ c. elim (Contains-cases z (insert xs i y) x c) [
          | inl here ↦ inl (subst (Contains (z ∷ xs)) here (Contains-head z xs))
          | inr later ↦ elim (rest.0 later) [ inl old ↦ inl (Contains-tail z xs x old) | inr new ↦ inr new ]
        ]),
        (λ c. elim c [
          | inl old ↦ elim (Contains-cases z xs x old) [
            | inl here ↦ subst (Contains (z ∷ insert xs i y)) here (Contains-head z (insert xs i y))
            | inr later ↦ Contains-tail z (insert xs i y) x (rest.1 (inl later))
          ]
          | inr new ↦ Contains-tail z (insert xs i y) x (rest.1 (inr new))
        ]),
      )

  -- a property of each element and of the inserted one
  All-insert : (P : X → Type 0) (xs : List X) (i : ℕ) (y : X) → i ≤ length xs → P y → All P xs → All P (insert xs i y)
  All-insert P [] zero y l p h = All-cons P y [] p h
  All-insert P [] (suc i) y l p h = absurd (omega arith)
  All-insert P (x ∷ xs) zero y l p h = All-cons P y (x ∷ xs) p h
  All-insert P (x ∷ xs) (suc i) y l p h = All-cons P x (insert xs i y) (All-head P x xs h) (All-insert P xs i y (omega arith) p (All-tail P x xs h))

  -- an element inserted between those that come before it and those that come after it
  pub AllPairs-insert : (R : X → X → Type 0) (xs : List X) (i : ℕ) (y : X) → i ≤ length xs → AllPairs R xs → AllWithin (λ x. R x y) xs 0 i
      → AllWithin (R y) xs i (length xs) → AllPairs R (insert xs i y)
  AllPairs-insert R [] zero y l h before behind = AllPairs-cons R y [] (All-nil (R y)) h
  AllPairs-insert R [] (suc i) y l h before behind = absurd (omega arith)
  AllPairs-insert R (x ∷ xs) zero y l h before behind = AllPairs-cons R y (x ∷ xs) (λ k d m. behind k d (omega arith) m) h
  AllPairs-insert R (x ∷ xs) (suc i) y l h before behind =
      AllPairs-cons R x (insert xs i y)
      (All-insert (R x) xs i y (omega arith) (before 0 x (omega arith) (omega arith)) (AllPairs-head R x xs h))
      (AllPairs-insert R xs i y (omega arith) (AllPairs-tail R x xs h) (λ k d m n. before (suc k) d (omega arith) (omega arith))
      (λ k d m n. behind (suc k) d (omega arith) (omega arith)))

  -- if no index is found, no element satisfies the test
  pub position-none : (p : X → Bool) (xs : List X) → position p xs ≡ None → list_any p xs ≡ false
  position-none p xs e = elim (cases_lt (position_or_len p xs) (length xs)) [
    | inl less ↦
        let found : position p xs ≡ Some (position_or_len p xs) =
        cond-true (ltb (position_or_len p xs) (length xs)) (Some (position_or_len p xs)) None (lt-ltb (position_or_len p xs) (length xs) less) in
        cc
    | inr more ↦ list_any-from_none p xs (λ k d l. fails_before_first p xs k d (omega arith))
  ]

  -- if an index is found, an element satisfies the test
  pub position-some : (p : X → Bool) (xs : List X) (i : ℕ) → position p xs ≡ Some i → (i < length xs) × (list_any p xs ≡ true)
  position-some p [] i e = cc
  position-some p (x ∷ xs) i e = let at = position-Some p (x ∷ xs) i x e in (at.0, list_any-at p (x ∷ xs) i x at.0 at.1)

  -- hence an index is found if and only if an element satisfies the test
  pub position-is_some : (p : X → Bool) (xs : List X) → is_some (position p xs) ≡ list_any p xs
  position-is_some p xs = by_index (position p xs) refl where
    -- by the index
    by_index : (o : Option ℕ) → position p xs ≡ o → is_some o ≡ list_any p xs
    by_index None e = sym (position-none p xs e)
    by_index (Some i) e = sym (position-some p xs i e).1

-- the new offers are the old ones except the feed's
abbrev pub HasLost : List Offer → List Offer → ℕ → Type 0
HasLost old new feed = (o : Offer) → Contains new o ↔ (Contains old o × (is_from feed o ≡ false))

-- whether two offers are of different feeds, with the offers exchanged
is_from-flip : (a b : Offer) → is_from b.feed a ≡ false → is_from a.feed b ≡ false
is_from-flip a b e = false_from_ne_true (is_from a.feed b) (λ same. both_ways (is_from b.feed a) e (eq-eqb a.feed b.feed (sym (eqb-true b.feed a.feed same))))

-- the offer of a feed that had none, inserted where it belongs
pub IsRanked-insert : (offers : List Offer) (index : ℕ) (offer : Offer) → IsRanked offers → All (λ o. is_from offer.feed o ≡ false) offers
    → IsInsertionIndex offer offers index → IsRanked (insert offers index offer)
IsRanked-insert offers index offer h fresh at = record {
  ordered =
      AllPairs-insert (λ a b. outranks a b ≡ true) offers index offer at.within h.ordered at.before
      (λ k d l m. outranks-other offer (get_or offers k d) (at.behind k d l m) (fresh k d m));
  single =
      let within = at.within in
      AllPairs-insert (λ a b. is_from b.feed a ≡ false) offers index offer at.within h.single
      (λ k d l m. fresh k d (omega arith)) (λ k d l m. is_from-flip (get_or offers k d) offer (fresh k d m));
}

-- an ordered list stays ordered without one of its offers
pub IsRanked-remove : (offers : List Offer) (index : ℕ) → IsRanked offers → index < length offers → IsRanked (remove offers index)
IsRanked-remove offers index h within = record {
  ordered = all_pairs_remove (λ a b. outranks a b ≡ true) offers index within h.ordered;
  single = all_pairs_remove (λ a b. is_from b.feed a ≡ false) offers index within h.single;
}

-- a single offer is ordered
pub IsRanked-one : (offer : Offer) → IsRanked (offer ∷ [])
IsRanked-one offer = record { ordered = λ i j d l m. absurd (omega arith); single = λ i j d l m. absurd (omega arith) }

-- one more offer outranks it
pub outranks-more : (offers : List Offer) (offer d : Offer) (index : ℕ) → index < length offers → AllWithin (λ o. outranks o offer ≡ true) offers 0 index
    → outranks (get_or offers index d) offer ≡ true → AllWithin (λ o. outranks o offer ≡ true) offers 0 (index + 1)
outranks-more offers offer d index within before here =
    AllWithin-more (λ o. outranks o offer ≡ true) offers 0 index before
    (λ e. subst (λ z. outranks z offer ≡ true) (get_or_default offers index d e within) here)

-- if an offer doesn't outrank the given one, no later offer does
pub outranks-behind : (offers : List Offer) (offer d : Offer) (index : ℕ) → IsRanked offers → index < length offers
    → outranks (get_or offers index d) offer ≡ false → AllWithin (λ o. outranks o offer ≡ false) offers index (length offers)
outranks-behind offers offer d index h within fails = λ k e l m.
    let there = subst (λ z. outranks z offer ≡ false) (get_or_default offers index d e within) fails in
    false_from_ne_true (outranks (get_or offers k e) offer) (λ holds.
    elim (cases_lt index k) [
      | inl less ↦
          both_ways (outranks (get_or offers index e) offer) there
          (outranks-trans (get_or offers index e) (get_or offers k e) offer (h.ordered index k e less m) holds)
      | inr more ↦
          let at : k ≡ index = omega arith in
          both_ways (outranks (get_or offers index e) offer) there (subst (λ i. outranks (get_or offers i e) offer ≡ true) at holds)
    ])

-- the offers except a feed's are those without the one at its index
pub without-is : (feed : ℕ) (offers : List Offer) (index : ℕ) (d : Offer) → AllPairs (λ a b. is_from b.feed a ≡ false) offers → index < length offers
    → is_from feed (get_or offers index d) ≡ true → filter (λ o. not (is_from feed o)) offers ≡ remove offers index
without-is feed [] index d single within is = absurd (omega arith)
without-is feed (x ∷ offers) zero d single within is =
    let mine = eqb-true x.feed feed is in
    let others : All (λ o. not (is_from feed o) ≡ true) offers =
    All-weaker (λ o. is_from o.feed x ≡ false) (λ o. not (is_from feed o) ≡ true)
    (λ o apart. not_from_false (is_from feed o) (false_from_ne_true (is_from feed o) (λ same.
    let also = eqb-true o.feed feed same in
    both_ways (is_from o.feed x) apart (eq-eqb x.feed o.feed (mine ∙ sym also)))))
    offers (AllPairs-head (λ a b. is_from b.feed a ≡ false) x offers single) in
    cond-false (not (is_from feed x)) (x ∷ filter (λ o. not (is_from feed o)) offers) (filter (λ o. not (is_from feed o)) offers)
    (not_from_true (is_from feed x) is) ∙ filter-all (λ o. not (is_from feed o)) offers others
without-is feed (x ∷ offers) (suc i) d single within is =
    let mine = eqb-true (get_or offers i d).feed feed is in
    let apart : is_from (get_or offers i d).feed x ≡ false = AllPairs-head (λ a b. is_from b.feed a ≡ false) x offers single i d (omega arith) in
    let other : is_from feed x ≡ false =
    false_from_ne_true (is_from feed x) (λ same.
    both_ways (is_from (get_or offers i d).feed x) apart (eq-eqb x.feed (get_or offers i d).feed (eqb-true x.feed feed same ∙ sym mine))) in
    cond-true (not (is_from feed x)) (x ∷ filter (λ o. not (is_from feed o)) offers) (filter (λ o. not (is_from feed o)) offers)
    (not_from_false (is_from feed x) other)
    ∙ ap (λ z. x ∷ z) (without-is feed offers i d (AllPairs-tail (λ a b. is_from b.feed a ≡ false) x offers single) (omega arith) is)

-- removing the offer at the feed's index leaves the other offers
pub remove_is_without : (feed : ℕ) (offers : List Offer) → IsRanked offers → (index : ℕ) → position (is_from feed) offers ≡ Some index
    → remove offers index ≡ without feed offers
remove_is_without feed [] h index found = cc
remove_is_without feed (x ∷ offers) h index found = let at = position-Some (is_from feed) (x ∷ offers) index x found in
    sym (without-is feed (x ∷ offers) index x h.single at.0 at.1)

-- the remaining offers are the others
pub lost : (feed : ℕ) (old new : List Offer) → new ≡ without feed old → HasLost old new feed
lost feed old new same o =
    let other = λ (x : Offer). not (is_from feed x) in (
      (λ c. let both = filter-from other old o (subst (λ l. Contains l o) same c) in (both.0, not-true (is_from feed o) both.1)),
      (λ c. subst (λ l. Contains l o) (sym same) (filter-keeps other old o c.0 (not_from_false (is_from feed o) c.1))),
    )

module _ (feed : ℕ) (offers : List Offer) (h : IsRanked offers) (index : ℕ) (found : position (is_from feed) offers ≡ Some index) where
  -- none of the remaining offers is the feed's
  pub none_of_feed : All (λ o. is_from feed o ≡ false) (remove offers index)
  none_of_feed k d l =
      let at = position-Some (is_from feed) offers index d found in
      let other = λ (x : Offer). not (is_from feed x) in
      let same : filter other offers ≡ remove offers index = without-is feed offers index d h.single at.0 at.1 in
      subst (All (λ o. is_from feed o ≡ false)) same
      (All-weaker (λ o. other o ≡ true) (λ o. is_from feed o ≡ false) (λ o. not-true (is_from feed o)) (filter other offers) (filter_passes other offers)) k d l

-- a feed's offer inserted in place of its old one
pub swapped : (old rest new : List Offer) (offer : Offer) → HasLost old rest offer.feed → HasGained rest new offer → HasSwapped old new offer true
swapped old rest new offer less more o = (
  (λ c. elim ((more o).0 c) [ inl there ↦ inl ((less o).0 there) | inr here ↦ inr here ]),
  (λ c. (more o).1 (elim c [ inl there ↦ inl ((less o).1 there) | inr here ↦ inr here ])),
)

-- a list of length 1 is its first offer
pub only_one : (offers : List Offer) (offer : Offer) → length offers ≡ 1 → offer ≡ get_or offers 0 offer → offers ≡ offer ∷ []
only_one [] offer long read = absurd (omega arith)
only_one (x ∷ []) offer long read = ap (λ z. z ∷ []) (sym read)
only_one (x ∷ y ∷ offers) offer long read = absurd (omega arith)

-- a property of a single offer
pub alone : (feed : ℕ) (offer : Offer) → is_from feed offer ≡ false → All (λ o. is_from feed o ≡ false) (offer ∷ [])
alone feed offer e = All-cons (λ o. is_from feed o ≡ false) offer [] e (All-nil (λ o. is_from feed o ≡ false))

module _ (one other : Offer) (fresh : is_from other.feed one ≡ false) where
  -- an offer after one that outranks it
  pub IsRanked-behind : outranks one other ≡ true → IsRanked (one ∷ other ∷ [])
  IsRanked-behind e = IsRanked-insert (one ∷ []) 1 other (IsRanked-one one) (alone other.feed one fresh) (record {
    within = omega arith;
    before = λ k d l m. All-cons (λ o. outranks o other ≡ true) one [] e (All-nil (λ o. outranks o other ≡ true)) k d m;
    behind = λ k d l m. absurd (omega arith);
  })

  -- an offer before one that does not outrank it
  pub IsRanked-before : outranks one other ≡ false → IsRanked (other ∷ one ∷ [])
  IsRanked-before e = IsRanked-insert (one ∷ []) 0 other (IsRanked-one one) (alone other.feed one fresh) (record {
    within = omega arith;
    before = λ k d l m. absurd (omega arith);
    behind = λ k d l m. All-cons (λ o. outranks o other ≡ false) one [] e (All-nil (λ o. outranks o other ≡ false)) k d m;
  })

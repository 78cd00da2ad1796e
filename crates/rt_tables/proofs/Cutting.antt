-- Two ordered lists cut at one place: the lists merged are their first parts merged, and then the others.
use Rattle.std.proofs.Common.{◌≡◌, ℕ, suc, ◌<◌, ◌≤◌, Bool, true, false, not, inl, inr, List, [], ◌∷◌, ◌++◌, length, get_or, take, drop, refl, ap, ◌∙◌, sym, subst, arith, drop-cons, get_or-take, get_or-drop, length-take-le, length-drop}
use Rattle.std.proofs.lemmas.Bool.{cases_Bool, cases_lt, cond-true, cond-false, both_ways, false_from_ne_true, not-true, not-false, not_from_false}
use Rattle.std.proofs.lemmas.List.{take-append-drop}
use Rattle.std.proofs.lemmas.List.Elements.{All-contains}
use Rattle.std.specs.List.{All, AllPairs, AllWithin, Contains}
use Rattle.std.specs.List.Sorted.{IsPartitionedBy, IsPartitionPoint}
use Rattle.rt_rib.proofs.Lists.{AllPairs-head}
use Rattle.rt_rib.proofs.Sets.{Contains-head, Contains-tail, Contains-cases}
use Rattle.rt_tables.specs.inside.Merging.{merged}
use Rattle.rt_tables.proofs.Lists.{AllPairs-back, AllPairs-across}

module _ {X : Type 0} (P : X → Type 0) (n : ℕ) (xs : List X) where
  -- a property of the elements before an index
  All-take_within : n ≤ length xs → AllWithin P xs 0 n → All P (take n xs)
  All-take_within le h = λ k d l.
      let below : k < n = omega (arith, l, length-take-le n xs le) in
      subst P (sym (get_or-take n xs k d below)) (h k d (omega arith) below)

  -- and of those from it on
  All-drop_within : AllWithin P xs n (length xs) → All P (drop n xs)
  All-drop_within h = λ k d l. subst P (sym (get_or-drop n xs k d)) (h _ d (omega arith) (omega (arith, l, length-drop n xs)))

module _ {X : Type 0} (before : X → X → Bool) where
  merged_nil : (xs : List X) → merged before xs [] ≡ xs
  merged_nil [] = refl
  merged_nil (x ∷ xs) = refl

  -- it is enough that no element of a first part comes after one of the other list's second part
  merged_append : (xs xs' ys ys' : List X) → ((x y : X) → Contains xs x → Contains ys' y → before y x ≡ false)
      → ((x y : X) → Contains xs' x → Contains ys y → before y x ≡ true)
      → merged before (xs ++ xs') (ys ++ ys') ≡ merged before xs ys ++ merged before xs' ys'
  merged_append [] xs' [] ys' late early = refl
  merged_append [] [] (y ∷ ys) ys' late early = refl
  merged_append [] (x ∷ xs') (y ∷ ys) ys' late early =
      cond-true (before y x) _ _ (early x y (Contains-head x xs') (Contains-head y ys))
      ∙ ap (λ l. y ∷ l) (merged_append [] (x ∷ xs') ys ys' late (λ a b c d. early a b c (Contains-tail y ys b d)))
  merged_append (x ∷ xs) xs' [] [] late early = ap (λ l. x ∷ (xs ++ l)) (sym (merged_nil xs'))
  merged_append (x ∷ xs) xs' [] (y ∷ ys') late early =
      cond-false (before y x) _ _ (late x y (Contains-head x xs) (Contains-head y ys'))
      ∙ ap (λ l. x ∷ l) (merged_append xs xs' [] (y ∷ ys') (λ a b c d. late a b (Contains-tail x xs a c) d) early)
      ∙ ap (λ l. x ∷ (l ++ merged before xs' (y ∷ ys'))) (merged_nil xs)
  merged_append (x ∷ xs) xs' (y ∷ ys) ys' late early = elim (cases_Bool (before y x)) [
    | inl goes ↦ rw goes
        (ap (λ l. y ∷ l) (merged_append (x ∷ xs) xs' ys ys' late (λ a b c d. early a b c (Contains-tail y ys b d))))
    | inr waits ↦ rw waits
        (ap (λ l. x ∷ l) (merged_append xs xs' (y ∷ ys) ys' (λ a b c d. late a b (Contains-tail x xs a c) d) early))
  ]

  module _ (onward : (x y z : X) → before x y ≡ true → before y z ≡ true → before x z ≡ true) where
    -- the first comes before the second
    abbrev Goes : X → X → Type 0
    Goes x y = before x y ≡ true

    -- in an ordered list, the elements that come before some element are the first ones
    pub parted_before : (xs : List X) (p : X) → AllPairs Goes xs → IsPartitionedBy (λ x. before x p) xs
    parted_before xs p h = λ i j d le l goes. elim (cases_lt i j) [
      | inl under ↦ onward _ _ p (h i j d under l) goes
      | inr over ↦ let same : i ≡ j = omega (arith, le, over) in rw same goes
    ]

    -- and so are those that it doesn't come before
    pub parted_after : (xs : List X) (p : X) → AllPairs Goes xs → IsPartitionedBy (λ x. not (before p x)) xs
    parted_after xs p h = λ i j d le l waits. elim (cases_lt i j) [
      | inl under ↦ not_from_false (before p (get_or xs i d)) (false_from_ne_true (before p (get_or xs i d)) (λ goes.
          both_ways (before p (get_or xs j d)) (not-true (before p (get_or xs j d)) waits) (onward p _ _ goes (h i j d under l))))
      | inr over ↦ let same : i ≡ j = omega (arith, le, over) in rw same waits
    ]

    module _ (xs ys : List X) (i j : ℕ) (d : X) where
      -- the lists merged are the first parts merged, and then the others
      abbrev IsCut : Type 0
      IsCut = merged before xs ys ≡ merged before (take i xs) (take j ys) ++ merged before (drop i xs) (drop j ys)

      cut_apart : ((x y : X) → Contains (take i xs) x → Contains (drop j ys) y → before y x ≡ false)
          → ((x y : X) → Contains (drop i xs) x → Contains (take j ys) y → before y x ≡ true) → IsCut
      cut_apart late early =
          ap (λ l. merged before l ys) (sym (take-append-drop i xs))
          ∙ ap (merged before (take i xs ++ drop i xs)) (sym (take-append-drop j ys))
          ∙ merged_append (take i xs) (drop i xs) (take j ys) (drop j ys) late early

      -- at an element of the first list: before it are those of the second list that come before it
      pub cut_at_first : AllPairs Goes xs → i < length xs → j ≤ length ys
          → IsPartitionPoint (λ y. before y (get_or xs i d) ≡ true) (λ y. before y (get_or xs i d) ≡ false) ys j → IsCut
      cut_at_first h within le point =
          let p = get_or xs i d in
          let rest = drop (suc i) xs in
          let from : drop i xs ≡ p ∷ rest = drop-cons xs i d within in
          let pairs : AllPairs Goes (take i xs ++ p ∷ rest) =
          subst (λ l. AllPairs Goes (take i xs ++ l)) from (subst (AllPairs Goes) (sym (take-append-drop i xs)) h) in
          let back = AllPairs-back Goes (take i xs) (p ∷ rest) pairs in
          cut_apart
          (λ x y c e.
          let under = AllPairs-across Goes (take i xs) (p ∷ rest) pairs x p c (Contains-head p rest) in
          let over = All-contains (λ y. before y p ≡ false) (drop j ys) y (All-drop_within (λ y. before y p ≡ false) j ys point.1) e in
          false_from_ne_true (before y x) (λ goes. both_ways (before y p) over (onward y x p goes under)))
          (λ x y c e.
          let goes = All-contains (λ y. before y p ≡ true) (take j ys) y (All-take_within (λ y. before y p ≡ true) j ys le point.0) e in
          elim (Contains-cases p rest x (subst (λ l. Contains l x) from c)) [
            | inl same ↦ subst (Goes y) same goes
            | inr later ↦ onward y p x goes (All-contains (Goes p) rest x (AllPairs-head Goes p rest back) later)
          ])

      -- at an element of the second list: behind it are those of the first list that it comes before
      pub cut_at_second : AllPairs Goes ys → j < length ys → i ≤ length xs
          → IsPartitionPoint (λ x. not (before (get_or ys j d) x) ≡ true) (λ x. not (before (get_or ys j d) x) ≡ false) xs i → IsCut
      cut_at_second h within le point =
          let p = get_or ys j d in
          let rest = drop (suc j) ys in
          let from : drop j ys ≡ p ∷ rest = drop-cons ys j d within in
          let pairs : AllPairs Goes (take j ys ++ p ∷ rest) =
          subst (λ l. AllPairs Goes (take j ys ++ l)) from (subst (AllPairs Goes) (sym (take-append-drop j ys)) h) in
          let back = AllPairs-back Goes (take j ys) (p ∷ rest) pairs in
          cut_apart
          (λ x y c e.
          let waits =
          not-true (before p x) (All-contains (λ x. not (before p x) ≡ true) (take i xs) x (All-take_within (λ x. not (before p x) ≡ true) i xs le point.0) c) in
          elim (Contains-cases p rest y (subst (λ l. Contains l y) from e)) [
            | inl same ↦ subst (λ z. before z x ≡ false) same waits
            | inr later ↦ false_from_ne_true (before y x) (λ goes.
                both_ways (before p x) waits (onward p y x (All-contains (Goes p) rest y (AllPairs-head Goes p rest back) later) goes))
          ])
          (λ x y c e.
          let goes =
          not-false (before p x) (All-contains (λ x. not (before p x) ≡ false) (drop i xs) x (All-drop_within (λ x. not (before p x) ≡ false) i xs point.1) c) in
          onward y p x (AllPairs-across Goes (take j ys) (p ∷ rest) pairs y p e (Contains-head p rest)) goes)

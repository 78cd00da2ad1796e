-- Properties of the elements of a list, and of each two of them.
use Rattle.std.proofs.Common.{◌≡◌, ℕ, zero, suc, ◌<◌, Bool, true, false, cond, not, List, [], ◌∷◌, ◌++◌, length, get_or, refl, ap, ◌∙◌, arith}
use Rattle.std.proofs.lemmas.Bool.{or_parts, or_from, or_left, or_right, and_from, not-true, cond-true, cond-false}
use Rattle.std.proofs.lemmas.List.Elements.{All-cons, All-head, All-tail, All-append, All-filter, All-weaker, filter_passes}
use Rattle.std.proofs.lemmas.List.Kept.{AllPairs-cons, AllPairs-filter}
use Rattle.std.specs.List.{All, AllPairs, filter, list_any, list_all}

-- a property that follows from two others for each element
pub All-join : {X : Type 0} (P Q R : X → Type 0) → ((x : X) → P x → Q x → R x) → (xs : List X) → All P xs → All Q xs → All R xs
All-join P Q R both xs p q = λ k d l. both (get_or xs k d) (p k d l) (q k d l)

-- the first element is related to each of the others
pub AllPairs-head : {X : Type 0} (R : X → X → Type 0) (x : X) (xs : List X) → AllPairs R (x ∷ xs) → All (R x) xs
AllPairs-head R x xs h = λ k d l. h 0 (suc k) d (omega arith) (omega arith)

-- each two of the others are related
pub AllPairs-tail : {X : Type 0} (R : X → X → Type 0) (x : X) (xs : List X) → AllPairs R (x ∷ xs) → AllPairs R xs
AllPairs-tail R x xs h = λ i j d l m. h (suc i) (suc j) d (omega arith) (omega arith)

-- two lists joined, if each element of the first is related to each of the second
pub AllPairs-append : {X : Type 0} (R : X → X → Type 0) (xs ys : List X) → AllPairs R xs → AllPairs R ys → All (λ x. All (R x) ys) xs → AllPairs R (xs ++ ys)
AllPairs-append R [] ys a b c = b
AllPairs-append R (x ∷ xs) ys a b c =
    AllPairs-cons R x (xs ++ ys) (All-append (R x) xs ys (AllPairs-head R x xs a) (All-head (λ z. All (R z) ys) x xs c))
    (AllPairs-append R xs ys (AllPairs-tail R x xs a) b (All-tail (λ z. All (R z) ys) x xs c))

-- if no element satisfies a test, each fails it
pub list_any-none : {X : Type 0} (p : X → Bool) (xs : List X) → list_any p xs ≡ false → All (λ x. p x ≡ false) xs
list_any-none p [] e = λ k d l. absurd (omega arith)
list_any-none p (x ∷ xs) e =
    let parts = or_parts (p x) (list_any p xs) e in
    All-cons (λ z. p z ≡ false) x xs parts.0 (list_any-none p xs parts.1)

-- the converse
pub list_any-from_none : {X : Type 0} (p : X → Bool) (xs : List X) → All (λ x. p x ≡ false) xs → list_any p xs ≡ false
list_any-from_none p [] h = refl
list_any-from_none p (x ∷ xs) h =
    or_from (p x) (list_any p xs) (All-head (λ z. p z ≡ false) x xs h) (list_any-from_none p xs (All-tail (λ z. p z ≡ false) x xs h))

-- if an element satisfies a test, some element does
pub list_any-at : {X : Type 0} (p : X → Bool) (xs : List X) (i : ℕ) (d : X) → i < length xs → p (get_or xs i d) ≡ true → list_any p xs ≡ true
list_any-at p [] i d l e = absurd (omega arith)
list_any-at p (x ∷ xs) zero d l e = or_left (p x) (list_any p xs) e
list_any-at p (x ∷ xs) (suc i) d l e = or_right (p x) (list_any p xs) (list_any-at p xs i d (omega arith) e)

-- a filter that each element passes keeps the list
pub filter-all : {X : Type 0} (p : X → Bool) (xs : List X) → All (λ x. p x ≡ true) xs → filter p xs ≡ xs
filter-all p [] h = refl
filter-all p (x ∷ xs) h =
    cond-true (p x) (x ∷ filter p xs) (filter p xs) (All-head (λ z. p z ≡ true) x xs h) ∙ ap (λ z. x ∷ z) (filter-all p xs (All-tail (λ z. p z ≡ true) x xs h))

-- a filter that no element passes leaves the empty list
pub filter-none : {X : Type 0} (p : X → Bool) (xs : List X) → All (λ x. p x ≡ false) xs → filter p xs ≡ []
filter-none p [] h = refl
filter-none p (x ∷ xs) h =
    cond-false (p x) (x ∷ filter p xs) (filter p xs) (All-head (λ z. p z ≡ false) x xs h) ∙ filter-none p xs (All-tail (λ z. p z ≡ false) x xs h)

-- if a relation is symmetric and holds for each two elements, those that pass a test are related to those that fail it
pub AllPairs-split : {X : Type 0} (R : X → X → Type 0) → ((x y : X) → R x y → R y x) → (p : X → Bool) (xs : List X) → AllPairs R xs
    → All (λ x. All (R x) (filter (λ z. not (p z)) xs)) (filter p xs)
AllPairs-split R flip p [] h = λ k d l. absurd (omega arith)
AllPairs-split {X} R flip p (x ∷ xs) h =
    let q : X → Bool = λ z. not (p z) in
    let rest = AllPairs-split R flip p xs (AllPairs-tail R x xs h) in
    let head = AllPairs-head R x xs h in
    elim (p x) as (λ b. All (λ y. All (R y) (cond (not b) (x ∷ filter q xs) (filter q xs))) (cond b (x ∷ filter p xs) (filter p xs))) [
      | true ↦ All-cons (λ y. All (R y) (filter q xs)) x (filter p xs) (All-filter q (R x) xs head) rest
      | false ↦
          All-join (R x) (λ y. All (R y) (filter q xs)) (λ y. All (R y) (x ∷ filter q xs))
          (λ y e others. All-cons (R y) x (filter q xs) (flip x y e) others) (filter p xs) (All-filter p (R x) xs head) rest
    ]

-- a test that each element satisfies
pub list_all-from : {X : Type 0} (p : X → Bool) (xs : List X) → All (λ x. p x ≡ true) xs → list_all p xs ≡ true
list_all-from p [] h = refl
list_all-from p (x ∷ xs) h = and_from (p x) (list_all p xs) (All-head (λ z. p z ≡ true) x xs h) (list_all-from p xs (All-tail (λ z. p z ≡ true) x xs h))

-- an element is inserted after the elements that come before it, and comes before each of the others
module _ {X : Type 0} (before : X → X → Bool) (onward : (x y z : X) → before x y ≡ true → before y z ≡ true → before x z ≡ true) where
  -- the first comes before the second
  abbrev Goes : X → X → Type 0
  Goes x y = before x y ≡ true

  module _ (r : X) (xs : List X) (other : All (λ s. before s r ≡ false → before r s ≡ true) xs) where
    -- the elements that come before it
    abbrev early : List X
    early = filter (λ s. before s r) xs

    -- the elements that don't
    abbrev late : List X
    late = filter (λ s. not (before s r)) xs

    -- it comes before the elements that don't come before it
    behind : All (Goes r) late
    behind =
        All-join (λ s. not (before s r) ≡ true) (λ s. before s r ≡ false → before r s ≡ true) (Goes r)
        (λ s after goes. goes (not-true (before s r) after)) late
        (filter_passes (λ s. not (before s r)) xs) (All-filter (λ s. not (before s r)) (λ s. before s r ≡ false → before r s ≡ true) xs other)

    -- the elements before it come before everything after
    across : All (λ s. All (Goes s) (r ∷ late)) early
    across =
        All-weaker (λ s. Goes s r) (λ s. All (Goes s) (r ∷ late))
        (λ s e. All-cons (Goes s) r late e (All-weaker (Goes r) (Goes s) (λ u. onward s r u e) late behind))
        early (filter_passes (λ s. before s r) xs)

    -- hence the order is kept
    pub AllPairs-put : AllPairs Goes xs → AllPairs Goes (early ++ r ∷ late)
    AllPairs-put h =
        AllPairs-append Goes early (r ∷ late) (AllPairs-filter Goes (λ s. before s r) xs h)
        (AllPairs-cons Goes r late behind (AllPairs-filter Goes (λ s. not (before s r)) xs h)) across

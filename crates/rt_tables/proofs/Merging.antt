-- Two ordered lists merged: the elements of both, in order.
use Rattle.std.proofs.Common.{◌≡◌, ℕ, suc, ◌<◌, ◌⊎◌, Bool, true, false, inl, inr, List, [], ◌∷◌, ◌++◌, length, get_or, drop, refl, ap, ◌∙◌, sym, subst, append-nil, drop-cons}
use Rattle.std.proofs.lemmas.Bool.{cases_Bool, cond-true, cond-false}
use Rattle.std.proofs.lemmas.List.Elements.{All-contains}
use Rattle.std.proofs.lemmas.List.Kept.{AllPairs-cons}
use Rattle.std.specs.Prelude.{◌↔◌}
use Rattle.std.specs.List.{AllPairs, Contains}
use Rattle.rt_rib.specs.declared.routes.Route.{Route}
use Rattle.rt_rib.specs.Table.{precedes}
use Rattle.rt_rib.proofs.Lists.{AllPairs-head, AllPairs-tail}
use Rattle.rt_rib.proofs.Order.{precedes-trans, precedes-other}
use Rattle.rt_rib.proofs.Sets.{Contains-head, Contains-tail, Contains-cases, Contains-none}
use Rattle.rt_rib.proofs.Tables.{Apart, Apart-flip}
use Rattle.rt_tables.specs.Unions.{union_of}
use Rattle.rt_tables.specs.inside.Merging.{merged}
use Rattle.rt_tables.specs.inside.Tables.{AreTables}
use Rattle.rt_tables.proofs.Lists.{All-from_contained}
use Rattle.rt_tables.proofs.Unions.{apart_by_feed}
use Rattle.rt_tables.proofs.Pairs.{two, first_table, second_table, two_differ, one_of_two}

module _ {X : Type 0} (before : X → X → Bool) where
  -- it has the elements of both lists
  pub merged_contains : (xs ys : List X) (z : X) → Contains (merged before xs ys) z ↔ (Contains xs z ⊎ Contains ys z)
  merged_contains [] ys z = ((λ c. inr c), (λ c. elim c [ inl none ↦ absurd (Contains-none z none) | inr other ↦ other ]))
  merged_contains (x ∷ xs) [] z = ((λ c. inl c), (λ c. elim c [ inl one ↦ one | inr none ↦ absurd (Contains-none z none) ]))
  merged_contains (x ∷ xs) (y ∷ ys) z = elim (cases_Bool (before y x)) [
    | inl goes ↦
        let rest = merged_contains (x ∷ xs) ys z in
        let all = merged before (x ∷ xs) ys in
        rw goes (
          (λ c. elim (Contains-cases y all z c) [
            | inl same ↦ inr (subst (Contains (y ∷ ys)) same (Contains-head y ys))
            | inr later ↦ elim (rest.0 later) [ inl one ↦ inl one | inr other ↦ inr (Contains-tail y ys z other) ]
          ]),
          (λ c. elim c [
            | inl one ↦ Contains-tail y all z (rest.1 (inl one))
            | inr two ↦ elim (Contains-cases y ys z two) [
              | inl same ↦ subst (Contains (y ∷ all)) same (Contains-head y all)
              | inr other ↦ Contains-tail y all z (rest.1 (inr other))
            ]
          ]),
        )
    | inr waits ↦
        let rest = merged_contains xs (y ∷ ys) z in
        let all = merged before xs (y ∷ ys) in
        rw waits (
          (λ c. elim (Contains-cases x all z c) [
            | inl same ↦ inl (subst (Contains (x ∷ xs)) same (Contains-head x xs))
            | inr later ↦ elim (rest.0 later) [ inl one ↦ inl (Contains-tail x xs z one) | inr other ↦ inr other ]
          ]),
          (λ c. elim c [
            | inl one ↦ elim (Contains-cases x xs z one) [
              | inl same ↦ subst (Contains (x ∷ all)) same (Contains-head x all)
              | inr other ↦ Contains-tail x all z (rest.1 (inl other))
            ]
            | inr two ↦ Contains-tail x all z (rest.1 (inr two))
          ]),
        )
  ]

  -- the next element is the first of the second list, if that comes before the first of the first list
  pub merged_takes_second : (xs ys : List X) (i j : ℕ) (d e : X) → i < length xs → j < length ys → before (get_or ys j e) (get_or xs i d) ≡ true
      → merged before (drop i xs) (drop j ys) ≡ get_or ys j e ∷ merged before (drop i xs) (drop (suc j) ys)
  merged_takes_second xs ys i j d e h k goes =
      ap (λ l. merged before l (drop j ys)) (drop-cons xs i d h) ∙ ap (merged before (get_or xs i d ∷ drop (suc i) xs)) (drop-cons ys j e k)
      ∙ cond-true (before (get_or ys j e) (get_or xs i d)) _ _ goes
      ∙ ap (λ l. get_or ys j e ∷ merged before l (drop (suc j) ys)) (sym (drop-cons xs i d h))

  -- else it is the first of the first list
  pub merged_takes_first : (xs ys : List X) (i j : ℕ) (d e : X) → i < length xs → j < length ys → before (get_or ys j e) (get_or xs i d) ≡ false
      → merged before (drop i xs) (drop j ys) ≡ get_or xs i d ∷ merged before (drop (suc i) xs) (drop j ys)
  merged_takes_first xs ys i j d e h k waits =
      ap (λ l. merged before l (drop j ys)) (drop-cons xs i d h) ∙ ap (merged before (get_or xs i d ∷ drop (suc i) xs)) (drop-cons ys j e k)
      ∙ cond-false (before (get_or ys j e) (get_or xs i d)) _ _ waits
      ∙ ap (λ l. get_or xs i d ∷ merged before (drop (suc i) xs) l) (sym (drop-cons ys j e k))

  -- if one list is at its end, the rest of the other follows
  pub merged_ends : (xs ys : List X) → (xs ≡ []) ⊎ (ys ≡ []) → merged before xs ys ≡ xs ++ ys
  merged_ends [] ys ends = refl
  merged_ends (x ∷ xs) [] ends = sym (append-nil (x ∷ xs))
  merged_ends (x ∷ xs) (y ∷ ys) ends = elim ends [ inl none ↦ cc | inr none ↦ cc ]

  -- a symmetric relation of each two elements stays
  pub merged_pairs : (R : X → X → Type 0) → ((x y : X) → R x y → R y x) → (xs ys : List X) → AllPairs R xs → AllPairs R ys
      → ((x y : X) → Contains xs x → Contains ys y → R x y) → AllPairs R (merged before xs ys)
  merged_pairs R flip [] ys h k across = k
  merged_pairs R flip (x ∷ xs) [] h k across = h
  merged_pairs R flip (x ∷ xs) (y ∷ ys) h k across = elim (cases_Bool (before y x)) [
    | inl goes ↦ rw goes
        (AllPairs-cons R y (merged before (x ∷ xs) ys)
        (All-from_contained (R y) (merged before (x ∷ xs) ys) (λ z c. elim ((merged_contains (x ∷ xs) ys z).0 c) [
          | inl one ↦ flip z y (across z y one (Contains-head y ys))
          | inr other ↦ All-contains (R y) ys z (AllPairs-head R y ys k) other
        ]))
        (merged_pairs R flip (x ∷ xs) ys h (AllPairs-tail R y ys k) (λ a b c d. across a b c (Contains-tail y ys b d))))
    | inr waits ↦ rw waits
        (AllPairs-cons R x (merged before xs (y ∷ ys))
        (All-from_contained (R x) (merged before xs (y ∷ ys)) (λ z c. elim ((merged_contains xs (y ∷ ys) z).0 c) [
          | inl one ↦ All-contains (R x) xs z (AllPairs-head R x xs h) one
          | inr other ↦ across x z (Contains-head x xs) other
        ]))
        (merged_pairs R flip xs (y ∷ ys) (AllPairs-tail R x xs h) k (λ a b c d. across a b (Contains-tail x xs a c) d)))
  ]

  module _ (onward : (x y z : X) → before x y ≡ true → before y z ≡ true → before x z ≡ true) where
    -- the first comes before the second
    abbrev Goes : X → X → Type 0
    Goes x y = before x y ≡ true

    -- the elements are in order, if one of each two elements of the two lists comes before the other
    pub merged_ordered : (xs ys : List X) → AllPairs Goes xs → AllPairs Goes ys
        → ((x y : X) → Contains xs x → Contains ys y → before y x ≡ false → before x y ≡ true) → AllPairs Goes (merged before xs ys)
    merged_ordered [] ys h k across = k
    merged_ordered (x ∷ xs) [] h k across = h
    merged_ordered (x ∷ xs) (y ∷ ys) h k across = elim (cases_Bool (before y x)) [
      | inl goes ↦ rw goes
          (AllPairs-cons Goes y (merged before (x ∷ xs) ys)
          (All-from_contained (Goes y) (merged before (x ∷ xs) ys) (λ z c. elim ((merged_contains (x ∷ xs) ys z).0 c) [
            | inl one ↦ elim (Contains-cases x xs z one) [
              | inl same ↦ subst (Goes y) same goes
              | inr later ↦ onward y x z goes (All-contains (Goes x) xs z (AllPairs-head Goes x xs h) later)
            ]
            | inr other ↦ All-contains (Goes y) ys z (AllPairs-head Goes y ys k) other
          ]))
          (merged_ordered (x ∷ xs) ys h (AllPairs-tail Goes y ys k) (λ a b c d. across a b c (Contains-tail y ys b d))))
      | inr waits ↦
          let first : before x y ≡ true = across x y (Contains-head x xs) (Contains-head y ys) waits in
          rw waits
          (AllPairs-cons Goes x (merged before xs (y ∷ ys))
          (All-from_contained (Goes x) (merged before xs (y ∷ ys)) (λ z c. elim ((merged_contains xs (y ∷ ys) z).0 c) [
            | inl one ↦ All-contains (Goes x) xs z (AllPairs-head Goes x xs h) one
            | inr other ↦ elim (Contains-cases y ys z other) [
              | inl same ↦ subst (Goes x) same first
              | inr later ↦ onward x y z first (All-contains (Goes y) ys z (AllPairs-head Goes y ys k) later)
            ]
          ]))
          (merged_ordered xs (y ∷ ys) (AllPairs-tail Goes x xs h) k (λ a b c d. across a b (Contains-tail x xs a c) d)))
    ]

-- two tables merged in dump order are their union
pub merged_union : (t u : List Route) → AreTables (two t u) → merged precedes t u ≡ union_of (two t u)
merged_union t u h =
    let one = first_table t u h in
    let other = second_table t u h in
    let apart : (r s : Route) → Contains t r → Contains u s → Apart r s = λ r s c d. apart_by_feed r s (two_differ t u h r s c d) in
    one_of_two t u h (merged precedes t u)
    (record {
      ordered = merged_ordered precedes precedes-trans t u one.ordered other.ordered
          (λ r s c d e. precedes-other r s e (Apart-flip r s (apart r s c d)));
      single = merged_pairs precedes Apart Apart-flip t u one.single other.single apart;
    })
    (merged_contains precedes t u)

-- Lists of routes as the sets of their elements.
use Rattle.std.proofs.Common.{◌≡◌, ℕ, zero, suc, ◌<◌, Bool, true, false, cond, not, ◌⊎◌, inl, inr, List, [], ◌∷◌, ◌++◌, length, get_or, refl, ap, ◌∙◌, sym}
use Rattle.std.proofs.Common.{subst, arith}
use Rattle.std.proofs.lemmas.Bool.{cases_Bool, cond-true, cond-false, both_ways, not-true, not_from_false}
use Rattle.std.proofs.lemmas.List.Elements.{All-contains, Contains-append_left, Contains-append_right, Contains-append_cases}
use Rattle.std.specs.Prelude.{◌↔◌}
use Rattle.std.specs.List.{AllPairs, Contains, filter}
use Rattle.rt_rib.specs.declared.routes.Route.{Route}
use Rattle.rt_rib.specs.Table.{precedes, is_of}
use Rattle.rt_rib.specs.Laws.{PutInAdds, TakeOutLeavesOthers, OneTableOfSet}
use Rattle.rt_rib.proofs.Lists.{AllPairs-head, AllPairs-tail}
use Rattle.rt_rib.proofs.Order.{precedes-itself, precedes-trans}

module _ {X : Type 0} where
  -- a list contains its first element
  pub Contains-head : (x : X) (xs : List X) → Contains (x ∷ xs) x
  Contains-head x xs = (0, omega arith, refl)

  -- and the elements of the rest
  pub Contains-tail : (y : X) (xs : List X) (x : X) → Contains xs x → Contains (y ∷ xs) x
  Contains-tail y xs x c = (suc c.0, (let l = c.1 in omega arith), c.2)

  -- an element of a list is its first element, or in the rest
  pub Contains-cases : (y : X) (xs : List X) (x : X) → Contains (y ∷ xs) x → (y ≡ x) ⊎ Contains xs x
  Contains-cases y xs x c = by_index y xs x c.0 c.1 c.2 where
    -- by its index
    by_index : (y : X) (xs : List X) (x : X) (k : ℕ) → k < length (y ∷ xs) → get_or (y ∷ xs) k x ≡ x → (y ≡ x) ⊎ Contains xs x
    by_index y xs x zero l e = inl e
    by_index y xs x (suc k) l e = inr (k, omega arith, e)

  -- the empty list has no elements
  pub Contains-none : (x : X) → Contains [] x → ⊥
  Contains-none x c = let l = c.1 in omega arith

  -- a filter keeps the elements that pass
  pub filter-keeps : (p : X → Bool) (xs : List X) (x : X) → Contains xs x → p x ≡ true → Contains (filter p xs) x
  filter-keeps p [] x c e = absurd (Contains-none x c)
  filter-keeps p (y ∷ xs) x c e =
      elim (Contains-cases y xs x c) [
        | inl same ↦
            let passes : p y ≡ true = ap p same ∙ e in
            subst (λ l. Contains l x) (sym (cond-true (p y) (y ∷ filter p xs) (filter p xs) passes))
            (subst (λ z. Contains (z ∷ filter p xs) x) (sym same) (Contains-head x (filter p xs)))
        | inr later ↦
            let rest = filter-keeps p xs x later e in
            elim (p y) as (λ b. Contains (cond b (y ∷ filter p xs) (filter p xs)) x) [ true ↦ Contains-tail y (filter p xs) x rest | false ↦ rest ]
      ]

  -- an element of the filtered list was in the list, and passes
  pub filter-from : (p : X → Bool) (xs : List X) (x : X) → Contains (filter p xs) x → Contains xs x × (p x ≡ true)
  filter-from p [] x c = absurd (Contains-none x c)
  filter-from p (y ∷ xs) x c =
      elim (cases_Bool (p y)) [
        | inl passes ↦
            elim (Contains-cases y (filter p xs) x (subst (λ l. Contains l x) (cond-true (p y) (y ∷ filter p xs) (filter p xs) passes) c)) [
              | inl same ↦ (subst (λ z. Contains (z ∷ xs) x) (sym same) (Contains-head x xs), ap p (sym same) ∙ passes)
              | inr later ↦ let rest = filter-from p xs x later in (Contains-tail y xs x rest.0, rest.1)
            ]
        | inr fails ↦
            let rest = filter-from p xs x (subst (λ l. Contains l x) (cond-false (p y) (y ∷ filter p xs) (filter p xs) fails) c) in
            (Contains-tail y xs x rest.0, rest.1)
      ]

  -- an element inserted between those that satisfy a test and the others
  pub Contains-put : (p : X → Bool) (xs : List X) (r x : X) → Contains (filter p xs ++ r ∷ filter (λ s. not (p s)) xs) x ↔ (Contains xs x ⊎ (r ≡ x))
  Contains-put p xs r x =
      let q : X → Bool = λ s. not (p s) in (
        (λ c. elim (Contains-append_cases (filter p xs) (r ∷ filter q xs) x c) [
          | inl front ↦ inl (filter-from p xs x front).0
          | inr back ↦ elim (Contains-cases r (filter q xs) x back) [ inl same ↦ inr same | inr later ↦ inl (filter-from q xs x later).0 ]
        ]),
        (λ c. elim c [
          | inl old ↦
              elim (cases_Bool (p x)) [
                | inl first ↦ Contains-append_left (filter p xs) (r ∷ filter q xs) x (filter-keeps p xs x old first)
                | inr after ↦ Contains-append_right (filter p xs) (r ∷ filter q xs) x
                    (Contains-tail r (filter q xs) x (filter-keeps q xs x old (not_from_false (p x) after)))
              ]
          | inr same ↦ Contains-append_right (filter p xs) (r ∷ filter q xs) x
              (subst (λ z. Contains (z ∷ filter q xs) x) (sym same) (Contains-head x (filter q xs)))
        ]),
      )

  module _ (before : X → X → Bool) (never : (x : X) → before x x ≡ false)
      (onward : (x y z : X) → before x y ≡ true → before y z ≡ true → before x z ≡ true) where
    -- the first comes before the second
    abbrev Goes : X → X → Type 0
    Goes x y = before x y ≡ true

    -- the first of an ordered list comes before every other element
    goes-rest : (x : X) (xs : List X) (y : X) → AllPairs Goes (x ∷ xs) → Contains xs y → before x y ≡ true
    goes-rest x xs y h c = All-contains (Goes x) xs y (AllPairs-head Goes x xs h) c

    -- two ordered lists with the same elements
    pub ordered_once : (xs ys : List X) → AllPairs Goes xs → AllPairs Goes ys → ((x : X) → Contains xs x → Contains ys x)
        → ((x : X) → Contains ys x → Contains xs x) → xs ≡ ys
    ordered_once [] [] h k to from = refl
    ordered_once [] (y ∷ ys) h k to from = absurd (Contains-none y (from y (Contains-head y ys)))
    ordered_once (x ∷ xs) [] h k to from = absurd (Contains-none x (to x (Contains-head x xs)))
    ordered_once (x ∷ xs) (y ∷ ys) h k to from =
        let same : y ≡ x =
        elim (Contains-cases y ys x (to x (Contains-head x xs))) [
          | inl here ↦ here
          | inr later ↦
              elim (Contains-cases x xs y (from y (Contains-head y ys))) [
                | inl also ↦ sym also
                | inr behind ↦ absurd (both_ways (before x x) (never x) (onward x y x (goes-rest x xs y h behind) (goes-rest y ys x k later)))
              ]
        ] in
        let k' : AllPairs Goes (x ∷ ys) = subst (λ z. AllPairs Goes (z ∷ ys)) same k in
        let rest =
        ordered_once xs ys (AllPairs-tail Goes x xs h) (AllPairs-tail Goes x ys k')
        (λ z c. elim (Contains-cases y ys z (to z (Contains-tail x xs z c))) [
          | inl head ↦ absurd (both_ways (before x x) (never x) (subst (λ w. before x w ≡ true) (sym head ∙ same) (goes-rest x xs z h c)))
          | inr later ↦ later
        ])
        (λ z c. elim (Contains-cases x xs z (from z (Contains-tail y ys z c))) [
          | inl head ↦ absurd (both_ways (before x x) (never x) (subst (λ w. before x w ≡ true) (sym head) (goes-rest x ys z k' c)))
          | inr later ↦ later
        ]) in
        ap (λ z. x ∷ z) rest ∙ ap (λ z. z ∷ ys) (sym same)

-- the set after an insertion
pub put_in_adds : PutInAdds
put_in_adds r x table = Contains-put (λ s. precedes s r) table r x

-- the set after a removal
pub take_out_leaves_others : TakeOutLeavesOthers
take_out_leaves_others feed prefix x table =
    let other = λ (s : Route). not (is_of feed prefix s) in (
      (λ c. let both = filter-from other table x c in (both.0, not-true (is_of feed prefix x) both.1)),
      (λ c. filter-keeps other table x c.0 (not_from_false (is_of feed prefix x) c.1)),
    )

-- hence a set has only one table
pub one_table_of_set : OneTableOfSet
one_table_of_set t u h k same =
    ordered_once precedes precedes-itself precedes-trans t u h.ordered k.ordered (λ x. (same x).0) (λ x. (same x).1)

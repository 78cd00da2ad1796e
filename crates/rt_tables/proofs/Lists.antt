-- Properties of each two elements of two lists one after the other, and of the elements of a list.
use Rattle.std.proofs.Common.{inl, inr, List, [], ◌∷◌, ◌++◌, subst, arith}
use Rattle.std.proofs.lemmas.List.Elements.{All-contains, Contains-get_or, Contains-append_left, Contains-append_right}
use Rattle.std.proofs.lemmas.List.Kept.{AllPairs-cons}
use Rattle.std.specs.List.{All, AllPairs, Contains}
use Rattle.rt_rib.proofs.Lists.{AllPairs-head, AllPairs-tail}
use Rattle.rt_rib.proofs.Sets.{Contains-cases}

-- a property of each element of a list
pub All-from_contained : {X : Type 0} (P : X → Type 0) (xs : List X) → ((x : X) → Contains xs x → P x) → All P xs
All-from_contained P xs h = λ k d l. h _ (Contains-get_or xs k d l)

module _ {X : Type 0} (R : X → X → Type 0) where
  -- there are no two elements
  pub AllPairs-nil : AllPairs R []
  AllPairs-nil = λ i j d l m. absurd (omega arith)

  -- each two elements of the first list
  pub AllPairs-front : (xs ys : List X) → AllPairs R (xs ++ ys) → AllPairs R xs
  AllPairs-front [] ys h = AllPairs-nil
  AllPairs-front (x ∷ xs) ys h =
      AllPairs-cons R x xs
      (All-from_contained (R x) xs (λ y c.
      All-contains (R x) (xs ++ ys) y (AllPairs-head R x (xs ++ ys) h) (Contains-append_left xs ys y c)))
      (AllPairs-front xs ys (AllPairs-tail R x (xs ++ ys) h))

  -- and of the second
  pub AllPairs-back : (xs ys : List X) → AllPairs R (xs ++ ys) → AllPairs R ys
  AllPairs-back [] ys h = h
  AllPairs-back (x ∷ xs) ys h = AllPairs-back xs ys (AllPairs-tail R x (xs ++ ys) h)

  -- an element of the first list and one of the second
  pub AllPairs-across : (xs ys : List X) → AllPairs R (xs ++ ys) → (x y : X) → Contains xs x → Contains ys y → R x y
  AllPairs-across [] ys h x y c d = absurd (let l = c.1 in omega arith)
  AllPairs-across (z ∷ xs) ys h x y c d =
      elim (Contains-cases z xs x c) [
        | inl first ↦
            subst (λ w. R w y) first
            (All-contains (R z) (xs ++ ys) y (AllPairs-head R z (xs ++ ys) h) (Contains-append_right xs ys y d))
        | inr later ↦ AllPairs-across xs ys (AllPairs-tail R z (xs ++ ys) h) x y later d
      ]

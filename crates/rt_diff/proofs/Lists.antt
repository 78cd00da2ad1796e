-- Properties of some element of a list, and of each two.
use Rattle.std.proofs.Common.{◌≡◌, ℕ, zero, suc, ◌<◌, ◌⊎◌, inl, inr, List, [], ◌∷◌, length, get_or, refl, sym, subst, arith}
use Rattle.std.proofs.lemmas.List.Elements.{All-head, All-tail}
use Rattle.std.specs.List.{All, Any, AllPairs}

module _ {X : Type 0} (P : X → Type 0) where
  -- some element has the property if the first one has
  pub Any-head : (x : X) (xs : List X) → P x → Any P (x ∷ xs)
  Any-head x xs p = (0, x, omega arith, refl, p)

  -- or if one of the rest has
  pub Any-tail : (x : X) (xs : List X) → Any P xs → Any P (x ∷ xs)
  Any-tail x xs a = (suc a.0, a.1, (let l = a.2 in omega arith), a.3, a.4)

  -- and only then
  pub Any-cases : (x : X) (xs : List X) → Any P (x ∷ xs) → P x ⊎ Any P xs
  Any-cases x xs a = by_index x xs a.0 a.1 a.2 a.3 a.4 where
    -- by its index
    by_index : (x : X) (xs : List X) (k : ℕ) (y : X) → k < length (x ∷ xs) → get_or (x ∷ xs) k y ≡ y → P y → P x ⊎ Any P xs
    by_index x xs zero y l e p = inl (subst P (sym e) p)
    by_index x xs (suc k) y l e p = inr (k, y, omega arith, e, p)

  -- no element of the empty list has it
  pub Any-none : Any P [] → ⊥
  Any-none a = let l = a.2 in omega arith

  -- a property of each element combined with one of some element
  pub All-any : {Q : Type 0} (R : X → Type 0) (xs : List X) → All R xs → Any P xs → ((x : X) → R x → P x → Q) → Q
  All-any {Q} R [] all any both = absurd (Any-none any)
  All-any {Q} R (x ∷ xs) all any both = elim (Any-cases x xs any) [
    | inl here ↦ both x (All-head R x xs all) here
    | inr later ↦ All-any R xs (All-tail R x xs all) later both
  ]

module _ {X : Type 0} (R : X → X → Type 0) where
  -- the first element is related to each of the others
  pub AllPairs-head : (x : X) (xs : List X) → AllPairs R (x ∷ xs) → All (R x) xs
  AllPairs-head x xs h = λ k d l. h 0 (suc k) d (omega arith) (omega arith)

  -- each two of the others are related
  pub AllPairs-tail : (x : X) (xs : List X) → AllPairs R (x ∷ xs) → AllPairs R xs
  AllPairs-tail x xs h = λ i j d l m. h (suc i) (suc j) d (omega arith) (omega arith)

  -- the empty list has no two elements
  pub AllPairs-none : AllPairs R []
  AllPairs-none i j d l m = absurd (omega arith)

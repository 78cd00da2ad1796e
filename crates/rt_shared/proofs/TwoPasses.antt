-- The two passes of a table of two feeds, taken from the end of their list one after the other.
use Rattle.std.proofs.Common.{◌≡◌, ◌∙◌, List, [], ◌∷◌, ◌++◌, Option, Some, length, length-append, subst, ap, arith}
use Rattle.std.specs.Option.{option_to_list}

-- a list of two elements has only its last two
two_of : {X : Type 0} (rest xs : List X) (first second : X) → length xs ≡ 2 → xs ≡ (rest ++ first ∷ []) ++ second ∷ [] → xs ≡ first ∷ second ∷ []
two_of [] xs first second two is = is
two_of {X} (p ∷ rest) xs first second two is =
    let many : length ((p ∷ rest ++ first ∷ []) ++ second ∷ []) ≡ 2 = subst (λ (l : List X). length l ≡ 2) is two in
    absurd (omega (arith, many, length-append (p ∷ rest ++ first ∷ []) (second ∷ []), length-append (p ∷ rest) (first ∷ [])))

-- a list of two elements is the two that were popped
pub both_popped : {X : Type 0} (xs shorter rest : List X) (last before : Option X) (first second : X) → length xs ≡ 2 → xs ≡ shorter ++ option_to_list last
    → last ≡ Some second → shorter ≡ rest ++ option_to_list before → before ≡ Some first → xs ≡ first ∷ second ∷ []
both_popped {X} xs shorter rest last before first second two is of_second then of_first =
    let one : shorter ≡ rest ++ first ∷ [] = then ∙ ap (λ (o : Option X). rest ++ option_to_list o) of_first in
    let both : xs ≡ shorter ++ second ∷ [] = is ∙ ap (λ (o : Option X). shorter ++ option_to_list o) of_second in
    two_of rest xs first second two (both ∙ ap (λ (l : List X). l ++ second ∷ []) one)

-- Examples of answers to the addresses of a list.
use Rattle.std.proofs.Common.{◌≡◌, ℕ, ◌+◌, ◌*◌, [], ◌∷◌, refl}
use Rattle.rt_rib.specs.Chunks.{answered}

-- answered
each_answer_is_of_its_address_and_the_earlier_one : answered (λ (x y : ℕ). 10 * x + y) (1 ∷ 2 ∷ []) (3 ∷ 4 ∷ []) ≡ 13 ∷ 24 ∷ []
each_answer_is_of_its_address_and_the_earlier_one = refl

answers_without_an_address_stay : answered (λ (x y : ℕ). 10 * x + y) (1 ∷ []) (3 ∷ 4 ∷ []) ≡ 13 ∷ 4 ∷ []
answers_without_an_address_stay = refl

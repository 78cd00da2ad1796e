-- Answers to the addresses of a list, a chunk or one address further.
use Rattle.std.proofs.Common.{◌≡◌, ℕ, zero, suc, ◌+◌, ◌<◌, ◌≤◌, List, [], ◌∷◌, ◌++◌, ◌∙◌, length, map, take, drop, set, get_or, refl, ap, subst, arith}
use Rattle.std.proofs.lemmas.List.{get_or-map, get_or_append_left, length-map}
use borrow.Rule.Slice.PartMut.{put_mid}
use Rattle.rt_rib.specs.Chunks.{answered}

module _ {X Y : Type 0} (answer : X → Y → Y) where
  -- a chunk from the beginning
  first_chunk : (n : ℕ) (xs : List X) (ys : List Y) → n ≤ length xs → length ys ≡ length xs
      → answered answer (take n xs) (take n ys) ++ drop n ys ≡ answered answer (take n xs) ys
  first_chunk zero xs ys within long = refl
  first_chunk (suc n) [] ys within long = absurd (omega (arith, within))
  first_chunk (suc n) (x ∷ xs) [] within long = absurd (omega (arith, long))
  first_chunk (suc n) (x ∷ xs) (y ∷ ys) within long = ap (λ l. answer x y ∷ l) (first_chunk n xs ys (omega (arith, within)) (omega (arith, long)))

  -- a chunk further
  pub answered_chunk : (start n end : ℕ) (xs : List X) (ys : List Y) → end ≡ start + n → end ≤ length xs → length ys ≡ length xs
      → put_mid start n (answered answer (take start xs) ys)
      (answered answer (take n (drop start xs)) (take n (drop start (answered answer (take start xs) ys)))) ≡ answered answer (take end xs) ys
  answered_chunk zero n end xs ys e within long =
      let same : n ≡ end = omega arith in
      subst (λ m. answered answer (take n xs) (take n ys) ++ drop n ys ≡ answered answer (take m xs) ys) same
      (first_chunk n xs ys (omega (arith, within)) long)
  answered_chunk (suc start) n zero xs ys e within long = absurd (omega (arith, e))
  answered_chunk (suc start) n (suc end) [] ys e within long = absurd (omega (arith, within))
  answered_chunk (suc start) n (suc end) (x ∷ xs) [] e within long = absurd (omega (arith, long))
  answered_chunk (suc start) n (suc end) (x ∷ xs) (y ∷ ys) e within long =
      ap (λ l. answer x y ∷ l) (answered_chunk start n end xs ys (omega (arith, e)) (omega (arith, within)) (omega (arith, long)))

  -- an address further: the answer to it was written, made of the earlier answer
  pub answered_more : (k end : ℕ) (xs : List X) (ys : List Y) (x : X) (y new : Y) → end ≡ k + 1 → k < length xs → length ys ≡ length xs
      → new ≡ answer (get_or xs k x) (get_or (answered answer (take k xs) ys) k y)
      → set (answered answer (take k xs) ys) k new ≡ answered answer (take end xs) ys
  answered_more k zero xs ys x y new e within long made = absurd (omega (arith, e))
  answered_more k (suc end) [] ys x y new e within long made = absurd (omega (arith, within))
  answered_more k (suc end) (z ∷ xs) [] x y new e within long made = absurd (omega (arith, long))
  answered_more zero (suc end) (z ∷ xs) (w ∷ ys) x y new e within long made =
      let none : end ≡ 0 = omega (arith, e) in
      rw none (ap (λ l. l ∷ ys) made)
  answered_more (suc k) (suc end) (z ∷ xs) (w ∷ ys) x y new e within long made =
      ap (λ l. answer z w ∷ l) (answered_more k end xs ys x y new (omega (arith, e)) (omega (arith, within)) (omega (arith, long)) made)

-- answers that depend on no earlier ones
pub answered-map : {X Y : Type 0} (answer : X → Y) (xs : List X) (ys : List Y) → length ys ≡ length xs
    → answered (λ x y. answer x) xs ys ≡ map answer xs
answered-map answer [] [] long = refl
answered-map answer [] (y ∷ ys) long = absurd (omega (arith, long))
answered-map answer (x ∷ xs) [] long = absurd (omega (arith, long))
answered-map answer (x ∷ xs) (y ∷ ys) long = ap (λ l. answer x ∷ l) (answered-map answer xs ys (omega (arith, long)))

-- an answer read in a list that begins with the answers
pub answer_read : {X Y : Type 0} (answer : X → Y) (xs : List X) (answers rest : List Y) (k : ℕ) (x : X) (y : Y) → k < length xs
    → answers ≡ map answer xs → get_or (answers ++ rest) k y ≡ answer (get_or xs k x)
answer_read answer xs answers rest k x y within are =
    let long = ap length are ∙ length-map xs answer in
    get_or_append_left answers rest y k (omega (arith, within, long)) ∙ ap (λ l. get_or l k y) are ∙ get_or-map answer xs k x y within

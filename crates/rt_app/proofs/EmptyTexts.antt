-- The texts of feeds that are left out, which are empty.
use Rattle.std.proofs.Common.{◌≡◌, ℕ, ◌+◌, ◌<◌, ◌≤◌, inl, inr, Bool, true, List, [], ◌∷◌, ◌++◌, length, map, get_or, refl, sym, ap, subst, ◌∙◌, arith, length-append}
use Rattle.std.specs.declared.vec.Vec.{Vec}
use Rattle.std.specs.declared.alloc.Global.{Global}
use Rattle.std.proofs.lemmas.Bool.{cases_lt}
use Rattle.std.proofs.lemmas.List.{length-map, map_push, get_or_append_left, get_or_push, get_or_past, length_push}

-- the texts of these vectors
abbrev pub texts_in : List (Vec ℕ Global) → List (List ℕ)
texts_in texts = map (λ text. text.items) texts

-- the text of each feed that is left out is empty
abbrev pub AreEmptyOf : (ℕ → Bool) → List (Vec ℕ Global) → Type 0
AreEmptyOf out texts = (k : ℕ) → out (k + 1) ≡ true → get_or (texts_in texts) k [] ≡ []

-- one more text
pub empty_more : (out : ℕ → Bool) (texts texts' : List (Vec ℕ Global)) (text : Vec ℕ Global) (n : ℕ) → length texts ≡ n → AreEmptyOf out texts
    → (out (n + 1) ≡ true → text.items ≡ []) → texts' ≡ texts ++ text ∷ [] → AreEmptyOf out texts'
empty_more out texts texts' text n count so_far is pushed k leaves =
    let all : texts_in texts' ≡ texts_in texts ++ text.items ∷ [] = ap texts_in pushed ∙ map_push (λ (t : Vec ℕ Global). t.items) texts text in
    let counted : length (texts_in texts) ≡ n = length-map texts (λ (t : Vec ℕ Global). t.items) ∙ count in
    elim (cases_lt k n) [
      | inl earlier ↦
          ap (λ (l : List (List ℕ)). get_or l k []) all
          ∙ (get_or_append_left (texts_in texts) (text.items ∷ []) [] k (omega (arith, counted, earlier)) ∙ so_far k leaves)
      | inr later ↦ elim (cases_lt n k) [
        | inl past ↦
            get_or_past (texts_in texts') k [] (omega (arith, past, counted, ap length all, length_push (texts_in texts) text.items))
        | inr last ↦
            let place : n ≡ k = omega (arith, later, last) in
            ap (λ (l : List (List ℕ)). get_or l k []) all
            ∙ (get_or_push (texts_in texts) text.items [] k (omega (arith, counted, place)) ∙ is (subst (λ i. out (i + 1) ≡ true) (sym place) leaves))
      ]
    ]

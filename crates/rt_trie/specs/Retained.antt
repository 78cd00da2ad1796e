-- What remains of a map after a filter was shown its pairs.
use Rattle.std.specs.Prelude.{◌≡◌, Bool, true, false, IsTrue, [], ◌∷◌, ◌⊎◌}
use Rattle.rt_cidr.specs.declared.prefixes.Prefix.{Prefix}
use Rattle.rt_trie.specs.Map.{Pairs}

-- the rest, with the pair before it or without
abbrev pub with_pair : {V : Type 0} → Bool → Prefix → V → Pairs V → Pairs V
with_pair true p v rest = (p, v) ∷ rest
with_pair false p v rest = rest

module _ {V S : Type 0} (is_done : S → Bool) (judges : S → Prefix → V → S → V → Bool → Type 0) where
  -- the filter was shown the pair and changed from s to t; the pair stays with the value that the filter gave it, or is
  -- removed
  pub record IsJudged (s t : S) (p : Prefix) (v : V) (rest new : Pairs V) : Type 0 where
    pub made : V
    pub stays : Bool
    pub judged : judges s p v t made stays
    pub new_is : new ≡ with_pair stays p made rest

  -- the pairs were shown to the filter one by one, until it was done: it changed from s to t, and `new` is what remains
  abbrev pub IsRetained : S → S → Pairs V → Pairs V → Type 0
  IsRetained s t [] new = (t ≡ s) × (new ≡ [])
  IsRetained s t ((p, v) ∷ rest) new =
      (IsTrue (is_done s) × (t ≡ s) × (new ≡ (p, v) ∷ rest))
      ⊎ ((is_done s ≡ false) × (next : S) × (remaining : Pairs V) × IsJudged s next p v remaining new × IsRetained next t rest remaining)

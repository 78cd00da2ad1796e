-- The fewest prefixes that make up a range of addresses (RFC 4632, section 3.1): each address of the range is in one of
-- them, and no other address is.
use Rattle.std.specs.Prelude.{ℕ, zero, suc, ◌+◌, ◌-◌, ◌^◌, ◌<◌, ◌≤◌, ◌↔◌, Bool, true, false, ◌&&◌, ◌||◌, nat_le, nat_lt, if◌then◌else◌, List, [], ◌∷◌, ◌++◌, length, All, Any}
use Rattle.std.specs.List.{AllPairs}
use Rattle.rt_cidr.specs.Cidr.{size_of, IsPrefix}

-- true if all of the `size` addresses from `base` on are in the range
abbrev pub is_inside : ℕ → ℕ → ℕ → ℕ → Bool
is_inside first last base size = nat_le first base && nat_le (base + size) (last + 1)

-- true if none of them is
abbrev pub is_outside : ℕ → ℕ → ℕ → ℕ → Bool
is_outside first last base size = nat_le (base + size) first || nat_lt last base

-- those of the prefixes, each as its base and its length, that are among the 2^bits addresses from `base` on: these addresses
-- themselves if all are in the range, none if none is, and else those of the lower and then those of the upper half
unfoldable pub prefixes_in : ℕ → ℕ → ℕ → ℕ → List (ℕ × ℕ)
prefixes_in first last zero base = if is_inside first last base 1 then (base, 32) ∷ [] else []
prefixes_in first last (suc half) base =
    elim (is_inside first last base (2 ^ suc half)) [
      | true ↦ (base, 32 - suc half) ∷ []
      | false ↦ elim (is_outside first last base (2 ^ suc half)) [
        | true ↦ []
        | false ↦ prefixes_in first last half base ++ prefixes_in first last half (base + 2 ^ half)
      ]
    ]

-- the prefixes of the range from the first to the last address, in order
abbrev pub prefixes_of : ℕ → ℕ → List (ℕ × ℕ)
prefixes_of first last = prefixes_in first last 32 0

-- the address is one of those of the prefix
abbrev pub IsOf : ℕ → ℕ × ℕ → Type 0
IsOf addr p = (p.0 ≤ addr) × (addr < p.0 + size_of p.1)

-- the pairs are prefixes, and an address is in one of them if and only if it is in the range
pub record MakeUp (first last : ℕ) (list : List (ℕ × ℕ)) : Type 0 where
  pub each : All (λ p. IsPrefix p.0 p.1) list
  pub addresses : (addr : ℕ) → Any (IsOf addr) list ↔ ((first ≤ addr) × (addr ≤ last))

-- the prefixes of a range make it up
abbrev pub PrefixesMakeUp : Type 0
PrefixesMakeUp = (first last : ℕ) → last < 2 ^ 32 → MakeUp first last (prefixes_of first last)

-- they are in ascending order, and no two have an address in common
abbrev pub PrefixesRise : Type 0
PrefixesRise = (first last : ℕ) → AllPairs (λ p q. p.0 + size_of p.1 ≤ q.0) (prefixes_of first last)

-- no shorter list of prefixes makes it up
abbrev pub AreFewest : Type 0
AreFewest =
    (first last : ℕ) (other : List (ℕ × ℕ)) → MakeUp first last other → length (prefixes_of first last) ≤ length other

-- The order of prefixes as an order of numbers: 64 times the base, and the length.
use Rattle.std.proofs.Common.{◌≡◌, ◌≢◌, ℕ, suc, ◌+◌, ◌*◌, ◌<◌, ◌≤◌, ◌⊎◌, inl, inr, true, false, refl, sym, ◌∙◌, arith}
use Rattle.std.proofs.lemmas.Bool.{false≢true}
use Rattle.std.proofs.lemmas.Bool.Decides.{eqb_tells, leb_tells}
use Rattle.rt_cidr.specs.declared.prefixes.Prefix.{Prefix}
use Rattle.std.specs.Ordering.{partial_lt}
use Rattle.rt_cidr.specs.contracts.prefixes.PrefixPartialOrd.TheImpl as order
use Rattle.rt_trie.specs.Map.{same_prefix, before}

-- base and length as one number
abbrev pub rank : Prefix → ℕ
rank p = 64 * p.base + p.len

-- two prefixes are the same if and only if their bases and lengths are
pub same_tells : (p q : Prefix)
    → ((same_prefix p q ≡ true) × (p.base ≡ q.base) × (p.len ≡ q.len)) ⊎ ((same_prefix p q ≡ false) × (rank p ≢ rank q))
same_tells p q =
    let s = p.is_prefix.short in
    let t = q.is_prefix.short in
    elim (eqb_tells p.base q.base) [
      | inl b ↦ elim (eqb_tells p.len q.len) [
        | inl l ↦ inl (rw (b.0, l.0) refl, b.1, l.1)
        | inr l ↦ inr (rw (b.0, l.0) refl, λ e. l.1 (omega arith))
      ]
      | inr b ↦ inr (rw b.0 refl, λ e. b.1 (omega arith))
    ]

-- a prefix comes before another if and only if its rank is lower
pub before_tells : (p q : Prefix)
    → ((before p q ≡ true) × (rank p < rank q)) ⊎ ((before p q ≡ false) × (rank q ≤ rank p))
before_tells p q =
    let s = p.is_prefix.short in
    let t = q.is_prefix.short in
    elim (leb_tells (suc p.base) q.base) [
      | inl b ↦ inl (rw b.0 refl, omega arith)
      | inr b ↦ elim (eqb_tells p.base q.base) [
        | inl e ↦ elim (leb_tells (suc p.len) q.len) [
          | inl l ↦ inl (rw (b.0, e.0, l.0) refl, omega arith)
          | inr l ↦ inr (rw (b.0, e.0, l.0) refl, omega arith)
        ]
        | inr e ↦ inr (rw (b.0, e.0) refl, omega arith)
      ]
    ]

pub same_rank : (p q : Prefix) → p.base ≡ q.base → p.len ≡ q.len → same_prefix p q ≡ true
same_rank p q b l = elim (same_tells p q) [ inl h ↦ h.0 | inr h ↦ absurd (h.1 (omega arith)) ]

pub other_rank : (p q : Prefix) → rank p ≢ rank q → same_prefix p q ≡ false
other_rank p q n = elim (same_tells p q) [ inl h ↦ absurd (n (omega arith)) | inr h ↦ h.0 ]

pub lower_rank : (p q : Prefix) → rank p < rank q → before p q ≡ true
lower_rank p q h = elim (before_tells p q) [ inl b ↦ b.0 | inr b ↦ absurd (omega arith) ]

pub higher_rank : (p q : Prefix) → rank q ≤ rank p → before p q ≡ false
higher_rank p q h = elim (before_tells p q) [ inl b ↦ absurd (omega arith) | inr b ↦ b.0 ]

pub rank_of_before : (p q : Prefix) → before p q ≡ true → rank p < rank q
rank_of_before p q h = elim (before_tells p q) [ inl b ↦ b.1 | inr b ↦ absurd (false≢true (sym b.0 ∙ h)) ]

pub rank_of_not_before : (p q : Prefix) → before p q ≡ false → rank q ≤ rank p
rank_of_not_before p q h = elim (before_tells p q) [ inl b ↦ absurd (false≢true (sym h ∙ b.0)) | inr b ↦ b.1 ]

-- the derived `<` of prefixes
pub lt_before : (p q : Prefix) → partial_lt order.partial_cmp-value.it p q ≡ before p q
lt_before p q =
    elim (leb_tells (suc p.base) q.base) [
      | inl b ↦ rw b.0 refl
      | inr b ↦ elim (eqb_tells p.base q.base) [
        | inl e ↦ elim (leb_tells (suc p.len) q.len) [
          | inl l ↦ rw (b.0, e.0, l.0) refl
          | inr l ↦ elim (eqb_tells p.len q.len) [
            | inl f ↦ rw (b.0, e.0, l.0, f.0) refl
            | inr f ↦ rw (b.0, e.0, l.0, f.0) refl
          ]
        ]
        | inr e ↦ rw (b.0, e.0) refl
      ]
    ]

-- The prefix at which two disjoint prefixes diverge.
use Rattle.std.proofs.Common.{◌≡◌, ◌≢◌, ℕ, suc, Bool, true, false, ◌+◌, ◌-◌, ◌*◌, ◌/◌, ◌%◌, ◌^◌, ◌<◌, ◌≤◌, ◌⊎◌, inl, inr, sym, subst, ap, ◌∙◌, arith, add-mul}
use Rattle.std.specs.Int.Bits.{bit_xor, xor_assoc, xor_self, xor_zero_r}
use Rattle.std.specs.Int.Count.{count_leading_zeros}
use Rattle.std.proofs.lemmas.Bool.{cases_lt}
use Rattle.std.proofs.lemmas.Nat.{leading_top, xor_of_32, xor_shr, pow_pos, pow-add, div-add-mod', mod_below, div-mul-add, mod-mul-add}
use Rattle.std.proofs.Math.Nat.{mul_assoc}
use Rattle.std.proofs.Math.Pow.{pow_mono}
use Rattle.rt_cidr.specs.declared.prefixes.Prefix.{Prefix}
use Rattle.std.specs.Prelude.{Err}
use Rattle.rt_cidr.specs.declared.prefixes.TextFault.{TextFault}
use Rattle.rt_cidr.specs.declared.prefixes.TextFault.TheVariants.{Text, Length, Bits}
use Rattle.rt_cidr.specs.Cidr.{size_of, IsPrefix}
use Rattle.rt_cidr.specs.Reading.{AnswersPair}
use Rattle.rt_trie.specs.Halves.{IsChild, PartsAt, middle, past}
use Rattle.rt_cidr.proofs.Promised.{size_pos}
use Rattle.rt_trie.proofs.Blocks.{lower_half, upper_half, ends_before}

-- two numbers whose exclusive or is zero are equal
xor_zero : (a b : ℕ) → bit_xor a b ≡ 0 → a ≡ b
xor_zero a b e = sym (xor_zero_r a) ∙ ap (λ n. bit_xor a n) (sym (xor_self b)) ∙ sym (xor_assoc a b b) ∙ ap (λ n. bit_xor n b) e

-- two numbers agree above their highest differing bit
same_above : (a b k : ℕ) → bit_xor a b < 2 ^ k → a / 2 ^ k ≡ b / 2 ^ k
same_above a b k h =
    let e : bit_xor a b ≡ 0 * 2 ^ k + bit_xor a b = omega arith in
    xor_zero (a / 2 ^ k) (b / 2 ^ k) (sym (xor_shr a b k) ∙ ap (λ n. n / 2 ^ k) e ∙ div-mul-add 0 (2 ^ k) (bit_xor a b) h)

-- two numbers differ from that bit on
differ_in : (a b j : ℕ) → 2 ^ j ≤ bit_xor a b → a / 2 ^ j ≢ b / 2 ^ j
differ_in a b j h e =
    let z : bit_xor a b / 2 ^ j ≡ 0 = xor_shr a b j ∙ ap (λ n. bit_xor (a / 2 ^ j) n) (sym e) ∙ xor_self (a / 2 ^ j) in
    let d : bit_xor a b / 2 ^ j * 2 ^ j + bit_xor a b % 2 ^ j ≡ bit_xor a b = div-add-mod' (bit_xor a b) (2 ^ j) in
    let w : 0 * 2 ^ j + bit_xor a b % 2 ^ j ≡ bit_xor a b = subst (λ n. n * 2 ^ j + bit_xor a b % 2 ^ j ≡ bit_xor a b) z d in
    let m : bit_xor a b % 2 ^ j < 2 ^ j = mod_below (bit_xor a b) (2 ^ j) (pow_pos j) in
    omega (arith, w, m, h)

differ_some : (a b : ℕ) → a ≢ b → 0 < bit_xor a b
differ_some a b d = elim (cases_lt 0 (bit_xor a b)) [ inl lt ↦ lt | inr ge ↦ absurd (d (xor_zero a b (omega arith))) ]

-- that bit, computed from the leading zeros of the exclusive or
pub highest_digit : (a b n : ℕ) → a < 2 ^ 32 → b < 2 ^ 32 → a ≢ b → n + count_leading_zeros 32 (bit_xor a b) ≡ 31
    → (a / 2 ^ (n + 1) ≡ b / 2 ^ (n + 1)) × (a / 2 ^ n ≢ b / 2 ^ n)
highest_digit a b n h k d e =
    let t = leading_top 32 (bit_xor a b) (differ_some a b d) (xor_of_32 a b h k) in
    let i : t.0 ≡ n = omega (arith, t.1, e) in
    let u : suc t.0 ≡ n + 1 = omega (arith, i) in (
      same_above a b (n + 1) (subst (λ m. bit_xor a b < 2 ^ m) u t.3),
      differ_in a b n (subst (λ m. 2 ^ m ≤ bit_xor a b) i t.2),
    )

-- the exclusive or of two different addresses has at most 31 leading zeros
pub few_zeros : (a b : ℕ) → a < 2 ^ 32 → b < 2 ^ 32 → a ≢ b → count_leading_zeros 32 (bit_xor a b) ≤ 31
few_zeros a b h k d =
    let t = leading_top 32 (bit_xor a b) (differ_some a b d) (xor_of_32 a b h k) in omega (arith, t.1)

-- the highest differing bit of two numbers is that many below the highest of 32
pub highest_by_zeros : (a b : ℕ) → a < 2 ^ 32 → b < 2 ^ 32 → a ≢ b
    → (a / 2 ^ (31 - count_leading_zeros 32 (bit_xor a b) + 1) ≡ b / 2 ^ (31 - count_leading_zeros 32 (bit_xor a b) + 1))
    × (a / 2 ^ (31 - count_leading_zeros 32 (bit_xor a b)) ≢ b / 2 ^ (31 - count_leading_zeros 32 (bit_xor a b)))
highest_by_zeros a b h k d =
    highest_digit a b (31 - count_leading_zeros 32 (bit_xor a b)) h k d (omega (arith, few_zeros a b h k d))

-- if two numbers agree down to a bit and differ in it, the lower one is in the lower half of the block that they share
pub parts : (a b j : ℕ) → a / 2 ^ (j + 1) ≡ b / 2 ^ (j + 1) → a / 2 ^ j ≢ b / 2 ^ j → a < b
    → (a / 2 ^ (j + 1) * 2 ^ (j + 1) ≤ a) × (a < a / 2 ^ (j + 1) * 2 ^ (j + 1) + 2 ^ j)
    × (a / 2 ^ (j + 1) * 2 ^ (j + 1) + 2 ^ j ≤ b) × (b < a / 2 ^ (j + 1) * 2 ^ (j + 1) + 2 ^ (j + 1))
parts a b j e d lt =
    let h = 2 ^ j in
    let s = 2 ^ (j + 1) in
    let n = a / 2 ^ (j + 1) in
    let double : 2 ^ (j + 1) ≡ 2 ^ j * 2 = pow-add 2 j 1 in
    let whole : n * 2 ^ (j + 1) ≡ 2 * n * 2 ^ j =
    ap (λ x. n * x) double ∙ sym (mul_assoc n (2 ^ j) 2) ∙ omega (arith, mul_assoc 2 n (2 ^ j)) in
    let pos : 0 < 2 ^ j = pow_pos j in
    let da = div-add-mod' a (2 ^ (j + 1)) in
    let db = div-add-mod' b (2 ^ (j + 1)) in
    let eb : a / 2 ^ (j + 1) * 2 ^ (j + 1) ≡ b / 2 ^ (j + 1) * 2 ^ (j + 1) = ap (λ x. x * 2 ^ (j + 1)) e in
    let ma : a % 2 ^ (j + 1) < 2 ^ (j + 1) = mod_below a (2 ^ (j + 1)) (pow_pos (j + 1)) in
    let mb : b % 2 ^ (j + 1) < 2 ^ (j + 1) = mod_below b (2 ^ (j + 1)) (pow_pos (j + 1)) in
    let low : (x : ℕ) → 2 * n * 2 ^ j ≤ x → x < 2 * n * 2 ^ j + 2 ^ j → x / 2 ^ j ≡ 2 * n =
    λ x g k.
    let r : x - 2 * n * 2 ^ j < 2 ^ j = omega (arith, g, k) in
    let i : x ≡ 2 * n * 2 ^ j + (x - 2 * n * 2 ^ j) = omega (arith, g) in
    ap (λ y. y / 2 ^ j) i ∙ div-mul-add (2 * n) (2 ^ j) (x - 2 * n * 2 ^ j) r in
    let high : (x : ℕ) → 2 * n * 2 ^ j + 2 ^ j ≤ x → x < 2 * n * 2 ^ j + 2 ^ j * 2 → x / 2 ^ j ≡ 2 * n + 1 =
    λ x g k.
    let w : (2 * n + 1) * 2 ^ j ≡ 2 * n * 2 ^ j + 1 * 2 ^ j = add-mul (2 * n) 1 (2 ^ j) in
    let r : x - (2 * n * 2 ^ j + 2 ^ j) < 2 ^ j = omega (arith, g, k) in
    let i : x ≡ (2 * n + 1) * 2 ^ j + (x - (2 * n * 2 ^ j + 2 ^ j)) = omega (arith, g, w) in
    ap (λ y. y / 2 ^ j) i ∙ div-mul-add (2 * n + 1) (2 ^ j) (x - (2 * n * 2 ^ j + 2 ^ j)) r in
    let below : a < 2 * n * 2 ^ j + 2 ^ j =
    elim (cases_lt a (2 * n * 2 ^ j + 2 ^ j)) [
      | inl l ↦ l
      | inr g ↦ absurd (d (high a g (omega arith) ∙ sym (high b (omega arith) (omega arith))))
    ] in
    let above : 2 * n * 2 ^ j + 2 ^ j ≤ b =
    elim (cases_lt b (2 * n * 2 ^ j + 2 ^ j)) [
      | inr g ↦ g
      | inl l ↦ absurd (d (low a (omega arith) (omega arith) ∙ sym (low b (omega arith) l)))
    ] in
    (omega arith, omega arith, omega arith, omega arith)

-- a shorter prefix covers at least as many addresses
size_mono : (a b : ℕ) → a ≤ b → size_of b ≤ size_of a
size_mono a b h = pow_mono (omega arith)

-- the prefix that two prefixes share down to the bit at which they diverge
pub parts_at : (p q c : Prefix) (j : ℕ) → j ≤ 31 → p.base / 2 ^ (j + 1) ≡ q.base / 2 ^ (j + 1) → p.base / 2 ^ j ≢ q.base / 2 ^ j → p.base < q.base
    → ((past q ≤ p.base) ⊎ (past p ≤ q.base)) → c.base ≡ p.base / 2 ^ (j + 1) * 2 ^ (j + 1) → c.len ≡ 31 - j → PartsAt c p q
parts_at p q c j short e d lt apart b l =
    let r = parts p.base q.base j e d lt in
    let size : size_of c.len ≡ 2 ^ (j + 1) = ap (λ n. 2 ^ n) (omega arith) in
    let double : 2 ^ (j + 1) ≡ 2 ^ j * 2 = pow-add 2 j 1 in
    let inside : q.base < past c = omega arith in
    let longer_q : c.len < q.len =
    elim (cases_lt c.len q.len) [ inl k ↦ k | inr k ↦ absurd (omega (arith, ends_before q c k (omega arith))) ] in
    let longer_p : c.len < p.len =
    elim (cases_lt c.len p.len) [
      | inl k ↦ k
      | inr k ↦ elim (cases_lt c.base p.base) [
        | inl m ↦ absurd (omega (arith, ends_before p c k m))
        | inr m ↦ elim apart [
          | inl o ↦ absurd (omega (arith, size_pos q.len))
          | inr o ↦ absurd (omega (arith, size_mono p.len c.len k))
        ]
      ]
    ] in
    let low : p.base < middle c = omega arith in
    let high : middle c ≤ q.base = omega arith in (
      record { long = omega arith; from = omega arith; to = lower_half c p longer_p low },
      record { long = omega arith; from = high; to = upper_half c q longer_q inside },
    )

-- the base and length that two addresses share make a prefix
pub is_prefix : (a j : ℕ) → a < 2 ^ 32 → j ≤ 31 → IsPrefix (a / 2 ^ (j + 1) * 2 ^ (j + 1)) (31 - j)
is_prefix a j h k =
    let e : 32 - (31 - j) ≡ j + 1 = omega arith in
    let clear : (a / 2 ^ (j + 1) * 2 ^ (j + 1)) % 2 ^ (j + 1) ≡ 0 =
    ap (λ n. n % 2 ^ (j + 1)) (omega arith) ∙ mod-mul-add (a / 2 ^ (j + 1)) (2 ^ (j + 1)) 0 (pow_pos (j + 1)) in
    record { short = omega arith; fits = omega (arith, div-add-mod' a (2 ^ (j + 1))); clear = rw e clear }

-- a pair that is a prefix isn't rejected
pub not_refused : (base len : ℕ) (fault : TextFault) → IsPrefix base len → AnswersPair base len (Err fault) → ⊥
not_refused base len Text p h = h
not_refused base len Length p h = omega (arith, p.short, h)
not_refused base len Bits p h = h.1 p

-- a number shifted down and up again fits in 64 bits
pub shifted_back : (a j : ℕ) → a < 2 ^ 32 → (a / 2 ^ (j + 1) * 2 ^ (j + 1)) % 18446744073709551616 ≡ a / 2 ^ (j + 1) * 2 ^ (j + 1)
shifted_back a j h = let d = div-add-mod' a (2 ^ (j + 1)) in omega arith

-- the prefix at which two diverge is longer than a prefix that has both in the same half
parent_shorter : (parent c low high : Prefix) (upper : Bool) → PartsAt c low high → IsChild parent upper low → IsChild parent upper high
    → parent.len < c.len
parent_shorter parent c low high upper k l h = elim (cases_lt parent.len c.len) [
  | inl lt ↦ lt
  | inr ge ↦ elim (cases_lt c.len parent.len) [
    | inl lt ↦ longer upper l h lt
    | inr le ↦ same_len upper l h (omega arith)
  ]
]
  where
    longer : (upper : Bool) → IsChild parent upper low → IsChild parent upper high → c.len < parent.len → parent.len < c.len
    longer false l h lt = elim (cases_lt parent.base (middle c)) [
      | inl b ↦ absurd (omega (arith, lower_half c parent lt b, k.1.from, h.to, size_pos high.len))
      | inr b ↦ absurd (omega (arith, k.0.to, l.from, size_pos low.len))
    ]
    longer true l h lt = elim (cases_lt parent.base (middle c)) [
      | inl b ↦ absurd (omega (arith, lower_half c parent lt b, k.1.from, h.to, size_pos high.len))
      | inr b ↦ absurd (omega (arith, k.0.to, l.from, size_pos low.len))
    ]

    same_len : (upper : Bool) → IsChild parent upper low → IsChild parent upper high → c.len ≡ parent.len → parent.len < c.len
    same_len false l h e = elim (cases_lt c.base parent.base) [
      | inl b ↦ absurd (omega (arith, ends_before parent c (omega arith) b, k.0.to, l.from, size_pos low.len))
      | inr g ↦ elim (cases_lt parent.base c.base) [
        | inl b ↦ absurd (omega (arith, ends_before c parent (omega arith) b, k.0.from, l.to, size_pos low.len))
        | inr j ↦ absurd (omega (arith, ap (λ n. size_of n) e, k.1.from, h.to, size_pos high.len))
      ]
    ]
    same_len true l h e = elim (cases_lt c.base parent.base) [
      | inl b ↦ absurd (omega (arith, ends_before parent c (omega arith) b, k.0.to, l.from, size_pos low.len))
      | inr g ↦ elim (cases_lt parent.base c.base) [
        | inl b ↦ absurd (omega (arith, ends_before c parent (omega arith) b, k.0.from, l.to, size_pos low.len))
        | inr j ↦ absurd (omega (arith, ap (λ n. size_of n) e, k.0.to, l.from, size_pos low.len))
      ]
    ]

-- that prefix is in the same half, too
pub child_of_parts : (parent c low high : Prefix) (upper : Bool) → PartsAt c low high → IsChild parent upper low → IsChild parent upper high
    → IsChild parent upper c
child_of_parts parent c low high false k l h =
    let lt = parent_shorter parent c low high false k l h in
    record {
      long = omega arith;
      from = elim (cases_lt c.base parent.base) [
        | inl b ↦ absurd (omega (arith, ends_before parent c (omega arith) b, k.0.to, l.from, size_pos low.len))
        | inr g ↦ g
      ];
      to = lower_half parent c lt (omega (arith, k.0.from, l.to, size_pos low.len));
    }
child_of_parts parent c low high true k l h =
    let lt = parent_shorter parent c low high true k l h in
    record {
      long = omega arith;
      from = elim (cases_lt c.base (middle parent)) [
        | inl b ↦ absurd (omega (arith, lower_half parent c lt b, k.0.to, l.from, size_pos low.len))
        | inr g ↦ g
      ];
      to = upper_half parent c lt (omega (arith, k.0.from, l.to, size_pos low.len));
    }

-- How the blocks of two prefixes relate: one is in a half of the other, or they are disjoint.
use Rattle.std.proofs.Common.{◌≡◌, ◌≢◌, ℕ, ◌+◌, ◌-◌, ◌*◌, ◌/◌, ◌^◌, ◌<◌, ◌≤◌, ◌⊎◌, inl, inr, ⊎_elim, ◌↔◌, ◌%◌, Bool}
use Rattle.std.proofs.Common.{true, false, cond, refl, sym, subst, ap, ◌∙◌, arith, add-mul}
use Rattle.std.proofs.lemmas.Nat.{pow_pos, pow-add, div-add-mod', mod_below, div-mul-add}
use Rattle.std.specs.Int.{◌∣◌}
use Rattle.std.proofs.Math.Pow.{pow_mono}
use Rattle.std.proofs.lemmas.Bool.{cases_lt, false≢true}
use Rattle.std.proofs.lemmas.Bool.Decides.{eqb_tells, leb_tells}
use Rattle.std.proofs.Math.Nat.{mul_assoc, dvd_trans, dvd-mul_right, dvd-mul_left_of_dvd, dvd-add, dvd-sub}
use Rattle.std.proofs.Math.Nat.{dvd_of_mod-eq-zero, le_of_dvd, mul-div_cancel_left, mul-le-mul_left, mul-le-mul_right}
use Rattle.std.proofs.Math.Nat.{mul-lt-mul_of_pos_right}
use Rattle.rt_cidr.specs.declared.prefixes.Prefix.{Prefix}
use Rattle.rt_cidr.specs.declared.address.Addr.{Addr}
use Rattle.rt_cidr.proofs.Promised.{size_pos}
use Rattle.rt_cidr.specs.Cidr.{size_of}
use Rattle.rt_cidr.specs.Prefix.{covers, contains}
use Rattle.rt_trie.specs.Halves.{IsChild, middle, middle_at, past}
use Rattle.rt_trie.specs.inside.Lawful.{IsKeyOf}
use Rattle.rt_trie.proofs.PrefixOrder.{rank}

-- the middle of a prefix, computed from its key
pub middle_of_key : {len base : ℕ} {q : Prefix} → IsKeyOf len base q → middle_at len base ≡ middle q
middle_of_key k = rw (k.len_is, k.base_is) refl

-- a number that is at most another is below it or equal to it
lt_or_eq : (a b : ℕ) → a ≤ b → (a < b) ⊎ (a ≡ b)
lt_or_eq a b h = elim (cases_lt a b) [ inl lt ↦ inl lt | inr ge ↦ inr (omega arith) ]

-- the block of a shorter prefix is twice some multiple of a longer one's
pub size_doubles : (a b : ℕ) → a < b → b ≤ 32 → size_of a ≡ 2 * (size_of b * 2 ^ (b - (a + 1)))
size_doubles a b h k =
    let e : 32 - a ≡ 1 + ((32 - b) + (b - (a + 1))) = omega arith in
    ap (λ n. 2 ^ n) e ∙ pow-add 2 1 ((32 - b) + (b - (a + 1))) ∙ ap (λ n. 2 ^ 1 * n) (pow-add 2 (32 - b) (b - (a + 1)))

-- half the block of a shorter prefix is a multiple of a longer one's
pub half_size : (a b : ℕ) → a < b → b ≤ 32 → size_of a / 2 ≡ size_of b * 2 ^ (b - (a + 1))
half_size a b h k = ap (λ n. n / 2) (size_doubles a b h k) ∙ mul-div_cancel_left (size_of b * 2 ^ (b - (a + 1))) (omega arith)

-- a shorter prefix's block, and half of it, are multiples of a longer one's
pub size_divides : (a b : ℕ) → a < b → b ≤ 32 → (size_of b ∣ size_of a) × (size_of b ∣ size_of a / 2)
size_divides a b h k =
    let d : size_of b ∣ size_of b * 2 ^ (b - (a + 1)) = dvd-mul_right (size_of b) (2 ^ (b - (a + 1))) in
    (rw (size_doubles a b h k) (dvd-mul_left_of_dvd (size_of b) d 2), rw (half_size a b h k) d)

-- a block that begins before a multiple of its size ends at or before this multiple
pub block_end : (s b hi : ℕ) → s ∣ b → s ∣ hi → b < hi → b + s ≤ hi
block_end s b hi p q h =
    let pos : 0 < hi - b = omega arith in
    omega (arith, le_of_dvd pos (dvd-sub s q p))

-- an address with the prefix's quotient lies in its block
pub range_of_cover : (q : Prefix) (a : ℕ) → a / size_of q.len ≡ q.base / size_of q.len → (q.base ≤ a) × (a < past q)
range_of_cover q a h =
    let s = size_of q.len in
    let e = ap (λ n. n * size_of q.len) h in
    let c = q.is_prefix.clear in
    let d = div-add-mod' a (size_of q.len) in
    let f = div-add-mod' q.base (size_of q.len) in
    let m = mod_below a (size_of q.len) (size_pos q.len) in
    (omega arith, omega arith)

-- an address in the block has the prefix's quotient
pub cover_of_range : (q : Prefix) (a : ℕ) → q.base ≤ a → a < past q → a / size_of q.len ≡ q.base / size_of q.len
cover_of_range q a h k =
    let f = div-add-mod' q.base (size_of q.len) in
    let c = q.is_prefix.clear in
    let r : a - q.base < size_of q.len = omega arith in
    let e : a ≡ q.base / size_of q.len * size_of q.len + (a - q.base) = omega arith in
    ap (λ n. n / size_of q.len) e ∙ div-mul-add (q.base / size_of q.len) (size_of q.len) (a - q.base) r

-- the base is a multiple of the block size of any length from the prefix's own on
pub base_divides : (q : Prefix) (len : ℕ) → q.len ≤ len → len ≤ 32 → size_of len ∣ q.base
base_divides q len h k =
    let d : size_of q.len ∣ q.base = dvd_of_mod-eq-zero (size_of q.len) q.is_prefix.clear in
    ⊎_elim (λ lt. dvd_trans (size_of len) (size_divides q.len len lt k).0 d)
    (λ e. subst (λ n. size_of n ∣ q.base) e d) (lt_or_eq q.len len h)

-- a prefix that begins within n of a shorter prefix's base ends within n, if n is a multiple of its block size
ends_within : (q p : Prefix) (n : ℕ) → q.len < p.len → size_of p.len ∣ n → p.base < q.base + n → past p ≤ q.base + n
ends_within q p n h d k =
    let s = p.is_prefix.short in
    block_end (size_of p.len) p.base (q.base + n) (base_divides p p.len (omega arith) s)
    (dvd-add (size_of p.len) (base_divides q p.len (omega arith) s) d) k

-- a longer prefix that begins in the lower half of a shorter one ends in it
pub lower_half : (q p : Prefix) → q.len < p.len → p.base < middle q → past p ≤ middle q
lower_half q p h k = ends_within q p (size_of q.len / 2) h (size_divides q.len p.len h p.is_prefix.short).1 k

-- a longer prefix that begins in the upper half of a shorter one ends in it
pub upper_half : (q p : Prefix) → q.len < p.len → p.base < past q → past p ≤ past q
upper_half q p h k = ends_within q p (size_of q.len) h (size_divides q.len p.len h p.is_prefix.short).0 k

-- a prefix that isn't shorter than another and begins before it ends before it
pub ends_before : (q p : Prefix) → q.len ≤ p.len → p.base < q.base → past p ≤ q.base
ends_before q p h k =
    let s = p.is_prefix.short in
    block_end (size_of p.len) p.base q.base (base_divides p p.len (omega arith) s) (base_divides q p.len h s) k

-- `covers` as a range
pub covers_tells : (q : Prefix) (a : Addr)
    → ((covers q a ≡ true) × (q.base ≤ a.0) × (a.0 < past q)) ⊎ ((covers q a ≡ false) × ((a.0 < q.base) ⊎ (past q ≤ a.0)))
covers_tells q a =
    elim (eqb_tells (a.0 / size_of q.len) (q.base / size_of q.len)) [
      | inl h ↦ let r = range_of_cover q a.0 h.1 in inl (h.0, r.0, r.1)
      | inr h ↦ inr (
        h.0,
        elim (cases_lt a.0 q.base) [
          | inl lt ↦ inl lt
          | inr ge ↦ elim (cases_lt a.0 (past q)) [
            | inl lt ↦ absurd (h.1 (cover_of_range q a.0 ge lt))
            | inr far ↦ inr far
          ]
        ],
      )
    ]

pub range_of_covers : (q : Prefix) (a : Addr) → covers q a ≡ true → (q.base ≤ a.0) × (a.0 < past q)
range_of_covers q a h = elim (covers_tells q a) [ inl r ↦ (r.1, r.2) | inr r ↦ cc ]

pub outside_of_covers : (q : Prefix) (a : Addr) → covers q a ≡ false → (a.0 < q.base) ⊎ (past q ≤ a.0)
outside_of_covers q a h = elim (covers_tells q a) [ inl r ↦ cc | inr r ↦ r.1 ]

-- the converse: an address in the range is covered
pub covered_of_range : (q : Prefix) (a : Addr) → q.base ≤ a.0 → a.0 < past q → covers q a ≡ true
covered_of_range q a h k = elim (covers_tells q a) [
  | inl r ↦ r.0
  | inr r ↦ elim r.1 [ inl lt ↦ absurd (omega arith) | inr ge ↦ absurd (omega arith) ]
]

pub uncovered_of_range : (q : Prefix) (a : Addr) → (a.0 < q.base) ⊎ (past q ≤ a.0) → covers q a ≡ false
uncovered_of_range q a o = elim (covers_tells q a) [
  | inr r ↦ r.0
  | inl r ↦ elim o [ inl lt ↦ absurd (omega (arith, r.1)) | inr ge ↦ absurd (omega (arith, r.2)) ]
]

-- `contains` by ranges
pub contains_tells : (p q : Prefix) → ((contains p q ≡ true) × (p.len ≤ q.len) × (p.base ≤ q.base) × (q.base < past p))
    ⊎ ((contains p q ≡ false) × ((q.len < p.len) ⊎ ((q.base < p.base) ⊎ (past p ≤ q.base))))
contains_tells p q =
    elim (leb_tells p.len q.len) [
      | inl l ↦ elim (covers_tells p (record { 0 = q.base })) [
        | inl r ↦ inl (rw l.0 r.0, l.1, r.1, r.2)
        | inr r ↦ inr (rw l.0 r.0, inr r.1)
      ]
      | inr l ↦ inr (rw l.0 refl, inl l.1)
    ]

-- if a prefix isn't longer than another, contains its base, and differs from it, then it is shorter
pub longer_of : (p q : Prefix) → (p.len ≤ q.len) × (p.base ≤ q.base) × (q.base < past p) → rank q ≢ rank p → p.len < q.len
longer_of p q r n = elim (lt_or_eq p.len q.len r.0) [
  | inl lt ↦ lt
  | inr e ↦ elim (cases_lt p.base q.base) [
    | inl lt ↦ absurd (omega (arith, ends_before q p (omega arith) lt))
    | inr ge ↦ absurd (n (omega arith))
  ]
]

-- the bit after a prefix's length, of a covered address, by the half that the address is in
pub next_bit : (q : Prefix) (a : ℕ) → q.len < 32 → q.base ≤ a → a < past q
    → (a < middle q → (a / (size_of q.len / 2)) % 2 ≡ 0) × (middle q ≤ a → (a / (size_of q.len / 2)) % 2 ≡ 1)
next_bit q a short from to =
    let h = size_of q.len / 2 in
    let n = q.base / size_of q.len in
    let d = size_doubles q.len 32 short (omega arith) in
    let double : size_of q.len ≡ size_of q.len / 2 * 2 = omega arith in
    let c = q.is_prefix.clear in
    let f = div-add-mod' q.base (size_of q.len) in
    let whole : n * size_of q.len ≡ 2 * n * (size_of q.len / 2) =
    ap (λ x. n * x) double ∙ sym (mul_assoc n (size_of q.len / 2) 2) ∙ omega (arith, mul_assoc 2 n (size_of q.len / 2)) in (
      λ lt.
          let r : a - 2 * n * (size_of q.len / 2) < size_of q.len / 2 = omega arith in
          let i : a ≡ 2 * n * (size_of q.len / 2) + (a - 2 * n * (size_of q.len / 2)) = omega arith in
          ap (λ x. x % 2) (ap (λ x. x / (size_of q.len / 2)) i ∙ div-mul-add (2 * n) (size_of q.len / 2) (a - 2 * n * (size_of q.len / 2)) r)
          ∙ omega arith,
      λ ge.
          let w : (2 * n + 1) * (size_of q.len / 2) ≡ 2 * n * (size_of q.len / 2) + 1 * (size_of q.len / 2) = add-mul (2 * n) 1 (size_of q.len / 2) in
          let r : a - (2 * n * (size_of q.len / 2) + size_of q.len / 2) < size_of q.len / 2 = omega arith in
          let i : a ≡ (2 * n + 1) * (size_of q.len / 2) + (a - (2 * n * (size_of q.len / 2) + size_of q.len / 2)) = omega (arith, w) in
          ap (λ x. x % 2) (ap (λ x. x / (size_of q.len / 2)) i
          ∙ div-mul-add (2 * n + 1) (size_of q.len / 2) (a - (2 * n * (size_of q.len / 2) + size_of q.len / 2)) r)
          ∙ omega arith,
    )

-- the distance from the base on, as a machine computes it, in 2^32ths of the prefix's addresses
abbrev pub offset_of : ℕ → ℕ → ℕ → ℕ
offset_of len base a = (a + (4294967296 - base)) % 4294967296 * 2 ^ len % 18446744073709551616

-- all addresses of a prefix together
whole_size : (len : ℕ) → len ≤ 32 → size_of len * 2 ^ len ≡ 4294967296
whole_size len h =
    let e : (32 - len) + len ≡ 32 = omega arith in
    sym (pow-add 2 (32 - len) len) ∙ ap (λ n. 2 ^ n) e

-- half of the addresses of a prefix
half_whole : (len : ℕ) → len < 32 → size_of len / 2 * 2 ^ len ≡ 2147483648
half_whole len h =
    let e : (32 - (len + 1)) + len ≡ 31 = omega arith in
    let f : size_of len / 2 ≡ 2 ^ (32 - (len + 1)) = omega (arith, half_size len 32 h (omega arith)) in
    ap (λ n. n * 2 ^ len) f ∙ sym (pow-add 2 (32 - (len + 1)) len) ∙ ap (λ n. 2 ^ n) e

-- a prefix ends at or before 2^32
pub past_fits : (q : Prefix) → past q ≤ 4294967296
past_fits q =
    let s = q.is_prefix.short in
    let f = q.is_prefix.fits in
    elim (cases_lt 0 q.len) [
      | inl long ↦ block_end (size_of q.len) q.base 4294967296 (base_divides q q.len (omega arith) s) (size_divides 0 q.len long s).0 f
      | inr none ↦
          let e : q.len ≡ 0 = omega arith in
          let c : q.base % 4294967296 ≡ 0 = subst (λ n. q.base % size_of n ≡ 0) e q.is_prefix.clear in
          omega (arith, ap size_of e)
    ]

-- these products don't overflow
uncut : (d len : ℕ) → d < 4294967296 → len ≤ 32 → d * 2 ^ len % 18446744073709551616 ≡ d * 2 ^ len
uncut d len h k =
    let m : 2 ^ len ≤ 2 ^ 32 = pow_mono k in
    omega (arith, mul-le-mul_left d m)

pub offset_covered : (q : Prefix) (a : Addr) → a.0 < 4294967296 → (covers q a ≡ true) ↔ (offset_of q.len q.base a.0 < 4294967296)
offset_covered q a fits =
    let s = q.is_prefix.short in
    let p = past_fits q in
    let w = whole_size q.len s in
    let d = (a.0 + (4294967296 - q.base)) % 4294967296 in
    let b : d < 4294967296 = omega arith in
    let u = uncut d q.len b s in
    elim (covers_tells q a) [
      | inl r ↦
          let e : d < size_of q.len = omega (arith, r.1, r.2) in
          (λ _. omega (arith, mul-lt-mul_of_pos_right e (pow_pos q.len)), λ _. r.0)
      | inr r ↦
          let e : size_of q.len ≤ d = elim r.1 [ inl lt ↦ omega arith | inr ge ↦ omega arith ] in
          (λ t. absurd (false≢true (sym r.0 ∙ t)), λ t. absurd (omega (arith, mul-le-mul_right (2 ^ q.len) e)))
    ]

pub not_covered : (q : Prefix) (a : Addr) (offset : ℕ) → ((covers q a ≡ true) ↔ (offset < 4294967296)) → 4294967296 ≤ offset → covers q a ≡ false
not_covered q a offset h k = elim (covers_tells q a) [ inl r ↦ absurd (omega (arith, h.0 r.0)) | inr r ↦ r.0 ]

pub offset_half : (q : Prefix) (a : Addr) → covers q a ≡ true → q.len < 32 → (2147483648 ≤ offset_of q.len q.base a.0) ↔ (middle q ≤ a.0)
offset_half q a covered short =
    let s = q.is_prefix.short in
    let p = past_fits q in
    let r = range_of_covers q a covered in
    let w = half_whole q.len short in
    let d = (a.0 + (4294967296 - q.base)) % 4294967296 in
    let b : d < 4294967296 = omega arith in
    let u = uncut d q.len b s in
    elim (cases_lt d (size_of q.len / 2)) [
      | inl lt ↦
          let m = mul-lt-mul_of_pos_right lt (pow_pos q.len) in
          (λ t. absurd (omega (arith, m)), λ t. absurd (omega arith))
      | inr ge ↦
          let m = mul-le-mul_right (2 ^ q.len) ge in
          (λ t. omega arith, λ t. omega (arith, m))
    ]

-- a child by ranges is a child by bits, and conversely
pub child_reading : (parent c : Prefix) (upper : Bool)
    → IsChild parent upper c ↔ ((parent.len < c.len) × (contains parent c ≡ true) × ((c.base / (size_of parent.len / 2)) % 2 ≡ cond upper 1 0))
child_reading parent c false = (
  λ w.
      let s = c.is_prefix.short in
      let b : c.base < middle parent = omega (arith, w.to, size_pos c.len) in
      let t = next_bit parent c.base (omega (arith, w.long)) w.from (omega arith) in (
        omega (arith, w.long),
        elim (contains_tells parent c) [
          | inl r ↦ r.0
          | inr r ↦ elim r.1 [
            | inl x ↦ absurd (omega (arith, w.long))
            | inr y ↦ elim y
                [ inl z ↦ absurd (omega (arith, w.from)) | inr z ↦ absurd (omega arith) ]
          ]
        ],
        t.0 b,
      ),
  λ h.
      let s = c.is_prefix.short in
      elim (contains_tells parent c) [
        | inr r ↦ absurd (false≢true (sym r.0 ∙ h.1))
        | inl r ↦ elim (cases_lt c.base (middle parent)) [
          | inl b ↦ record { long = omega (arith, h.0); from = r.2; to = lower_half parent c h.0 b }
          | inr b ↦ let t = next_bit parent c.base (omega (arith, h.0)) r.2 r.3 in absurd (omega (arith, t.1 b, h.2))
        ]
      ],
)
child_reading parent c true = (
  λ w.
      let s = c.is_prefix.short in
      let t = next_bit parent c.base (omega (arith, w.long)) (omega (arith, w.from)) (omega (arith, w.to, size_pos c.len)) in (
        omega (arith, w.long),
        elim (contains_tells parent c) [
          | inl r ↦ r.0
          | inr r ↦ elim r.1 [
            | inl x ↦ absurd (omega (arith, w.long))
            | inr y ↦ elim y [
              | inl z ↦ absurd (omega (arith, w.from))
              | inr z ↦ absurd (omega (arith, w.to, size_pos c.len))
            ]
          ]
        ],
        t.1 w.from,
      ),
  λ h.
      let s = c.is_prefix.short in
      elim (contains_tells parent c) [
        | inr r ↦ absurd (false≢true (sym r.0 ∙ h.1))
        | inl r ↦ elim (cases_lt c.base (middle parent)) [
          | inr b ↦ record { long = omega (arith, h.0); from = b; to = upper_half parent c h.0 r.3 }
          | inl b ↦ let t = next_bit parent c.base (omega (arith, h.0)) r.2 r.3 in absurd (omega (arith, t.0 b, h.2))
        ]
      ],
)

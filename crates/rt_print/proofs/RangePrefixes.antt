-- The prefixes of a range of addresses make it up, in ascending order, and no shorter list of prefixes does.
use Rattle.std.proofs.Common.{◌≡◌, ℕ, zero, suc, ◌+◌, ◌-◌, ◌*◌, ◌%◌, ◌^◌, ◌<◌, ◌≤◌, ◌↔◌, ◌⊎◌, inl, inr, Bool, true, false, ◌&&◌, nat_lt, cond, List, [], ◌∷◌, ◌++◌, length, get_or}
use Rattle.std.proofs.Common.{flat_map, append-nil, refl, sym, ap, subst, ◌∙◌, arith, le-leb, lt-ltb, ltb-true, length-append, count_by}
use Rattle.std.specs.List.{All, Any, AllPairs}
use Rattle.std.proofs.Math.Nat.{pow-suc}
use Rattle.std.proofs.lemmas.Nat.{pow_pos, mod-mul-add}
use Rattle.std.proofs.lemmas.Bool.{cases_Bool, cases_lt, and_parts, and_from, or_cases, or_left, or_right, leb-true}
use Rattle.std.proofs.lemmas.List.{get_or_default}
use Rattle.std.proofs.lemmas.List.Elements.{All-nil, All-cons, All-head, All-tail, All-append, All-weaker}
use Rattle.std.proofs.lemmas.List.Kept.{AllPairs-cons}
use Rattle.std.proofs.lemmas.List.Sums.{sum_by-cons, count_by-le-length}
use Rattle.std.proofs.lemmas.Grind.{flat_map-append}
use Rattle.rt_cidr.specs.declared.address.Addr.{Addr}
use Rattle.rt_cidr.specs.declared.prefixes.Prefix.{Prefix}
use Rattle.rt_cidr.specs.Cidr.{size_of, IsPrefix}
use Rattle.rt_cidr.specs.Laws.{CoversItsRange, ContainsWhatItCovers, CoveringAreNested}
use Rattle.rt_cidr.proofs.Promised.{size_pos}
use Rattle.rt_print.specs.RangePrefixes.{is_inside, is_outside, prefixes_in, prefixes_of, IsOf, MakeUp, PrefixesMakeUp, PrefixesRise, AreFewest}

-- the 2^bits addresses from `base` on are those of a prefix
pub record IsBlock (bits base : ℕ) : Type 0 where
  pub few : bits ≤ 32
  pub times : ℕ
  pub is : base ≡ times * 2 ^ bits
  pub fits : base + 2 ^ bits ≤ 2 ^ 32

-- all addresses
pub whole_block : IsBlock 32 0
whole_block = record { few = omega arith; times = 0; is = refl; fits = omega arith }

pub lower_block : (half base : ℕ) → IsBlock (suc half) base → IsBlock half base
lower_block half base b =
    let twice = pow-suc 2 half in record {
      few = omega (arith, b.few);
      times = b.times * 2;
      is = b.is ∙ ap (λ n. b.times * n) twice ∙ omega arith;
      fits = omega (arith, b.fits, twice);
    }

pub upper_block : (half base : ℕ) → IsBlock (suc half) base → IsBlock half (base + 2 ^ half)
upper_block half base b =
    let twice = pow-suc 2 half in
    let is : base ≡ b.times * (2 ^ half * 2) = b.is ∙ ap (λ n. b.times * n) twice in record {
      few = omega (arith, b.few);
      times = b.times * 2 + 1;
      is = omega (arith, is);
      fits = omega (arith, b.fits, twice);
    }

pub block_size : (bits : ℕ) → bits ≤ 32 → size_of (32 - bits) ≡ 2 ^ bits
block_size bits few = ap (λ n. 2 ^ n) (omega arith)

block_is_prefix : (bits base : ℕ) → IsBlock bits base → IsPrefix base (32 - bits)
block_is_prefix bits base b =
    let clear : (b.times * 2 ^ bits + 0) % 2 ^ bits ≡ 0 = mod-mul-add b.times (2 ^ bits) 0 (pow_pos bits) in
    let same : b.times * 2 ^ bits + 0 ≡ base = omega (arith, b.is) in record {
      short = omega arith;
      fits = omega (arith, b.fits, pow_pos bits);
      clear = ap (λ n. base % n) (block_size bits b.few) ∙ subst (λ n. n % 2 ^ bits ≡ 0) same clear;
    }

-- all addresses of the block are in the range
abbrev pub IsInside : ℕ → ℕ → ℕ → ℕ → Type 0
IsInside first last bits base = (first ≤ base) × (base + 2 ^ bits ≤ last + 1)

-- none is
abbrev pub IsOutside : ℕ → ℕ → ℕ → ℕ → Type 0
IsOutside first last bits base = (base + 2 ^ bits ≤ first) ⊎ (last < base)

inside_from : (first last base size : ℕ) → is_inside first last base size ≡ true → (first ≤ base) × (base + size ≤ last + 1)
inside_from first last base size h = let both = and_parts _ _ h in (leb-true _ _ both.0, leb-true _ _ both.1)

inside_to : (first last base size : ℕ) → first ≤ base → base + size ≤ last + 1 → is_inside first last base size ≡ true
inside_to first last base size from to = and_from _ _ (le-leb _ _ from) (le-leb _ _ to)

outside_from : (first last base size : ℕ) → is_outside first last base size ≡ true → (base + size ≤ first) ⊎ (last < base)
outside_from first last base size h = elim (or_cases _ _ h) [ inl before ↦ inl (leb-true _ _ before) | inr after ↦ inr (ltb-true _ _ after) ]

outside_to : (first last base size : ℕ) → (base + size ≤ first) ⊎ (last < base) → is_outside first last base size ≡ true
outside_to first last base size (inl before) = or_left _ _ (le-leb _ _ before)
outside_to first last base size (inr after) = or_right _ _ (lt-ltb _ _ after)

-- the cases of the definition
module _ (first last : ℕ) where
  pub prefixes_inside : (bits base : ℕ) → IsInside first last bits base → prefixes_in first last bits base ≡ (base, 32 - bits) ∷ []
  unfolding prefixes_in
  prefixes_inside zero base h = let holds = inside_to first last base 1 h.0 h.1 in rw (holds, prefixes_in) refl
  prefixes_inside (suc half) base h = let holds = inside_to first last base (2 ^ suc half) h.0 h.1 in rw (holds, prefixes_in) refl

  -- not both
  apart : (bits base : ℕ) → IsInside first last bits base → IsOutside first last bits base → ⊥
  apart bits base inside (inl before) = let some = pow_pos bits in omega (arith, inside.0)
  apart bits base inside (inr after) = let some = pow_pos bits in omega (arith, inside.1)

  pub prefixes_outside : (bits base : ℕ) → IsOutside first last bits base → prefixes_in first last bits base ≡ []
  unfolding prefixes_in
  prefixes_outside zero base h = elim (cases_Bool (is_inside first last base 1)) [
    | inl holds ↦ absurd (apart zero base (inside_from first last base 1 holds) h)
    | inr fails ↦ rw (fails, prefixes_in) refl
  ]
  prefixes_outside (suc half) base h = elim (cases_Bool (is_inside first last base (2 ^ suc half))) [
    | inl holds ↦ absurd (apart (suc half) base (inside_from first last base (2 ^ suc half) holds) h)
    | inr fails ↦ let none = outside_to first last base (2 ^ suc half) h in rw (fails, none, prefixes_in) refl
  ]

  -- the halves of a block outside the range are outside it
  halves_outside : (half base : ℕ) → IsOutside first last (suc half) base → [] ≡ prefixes_in first last half base ++ prefixes_in first last half (base + 2 ^ half)
  halves_outside half base h =
      let twice = pow-suc 2 half in
      let lower : IsOutside first last half base = elim h [ inl before ↦ inl (omega (arith, twice)) | inr after ↦ inr after ] in
      let upper : IsOutside first last half (base + 2 ^ half) = elim h [ inl before ↦ inl (omega (arith, twice)) | inr after ↦ inr (omega arith) ] in
      rw (prefixes_outside half base lower, prefixes_outside half (base + 2 ^ half) upper) refl

  pub prefixes_halves : (half base : ℕ) → (IsInside first last (suc half) base → ⊥)
      → prefixes_in first last (suc half) base ≡ prefixes_in first last half base ++ prefixes_in first last half (base + 2 ^ half)
  unfolding prefixes_in
  prefixes_halves half base h = elim (cases_Bool (is_inside first last base (2 ^ suc half))) [
    | inl holds ↦ absurd (h (inside_from first last base (2 ^ suc half) holds))
    | inr fails ↦ elim (cases_Bool (is_outside first last base (2 ^ suc half))) [
      | inl none ↦ rw (fails, none, prefixes_in) (halves_outside half base (outside_from first last base (2 ^ suc half) none))
      | inr some ↦ rw (fails, some, prefixes_in) refl
    ]
  ]

  -- a property of the prefixes in a block, from that of a block that is inside the range, of one outside it, and of halves
  pub by_blocks : (Q : ℕ → ℕ → List (ℕ × ℕ) → Type 0)
      → ((bits base : ℕ) → IsBlock bits base → IsInside first last bits base → Q bits base ((base, 32 - bits) ∷ []))
      → ((bits base : ℕ) → IsBlock bits base → IsOutside first last bits base → Q bits base [])
      → ((half base : ℕ) (lower upper : List (ℕ × ℕ)) → IsBlock (suc half) base → (IsInside first last (suc half) base → ⊥)
      → Q half base lower → Q half (base + 2 ^ half) upper → Q (suc half) base (lower ++ upper))
      → (bits base : ℕ) → IsBlock bits base → Q bits base (prefixes_in first last bits base)
  by_blocks Q inside outside halves zero base b = elim (cases_lt base first) [
    | inl before ↦
        let h : IsOutside first last zero base = inl (omega arith) in
        rw (prefixes_outside zero base h) (outside zero base b h)
    | inr from ↦ elim (cases_lt last base) [
      | inl after ↦
          let h : IsOutside first last zero base = inr after in
          rw (prefixes_outside zero base h) (outside zero base b h)
      | inr to ↦
          let h : IsInside first last zero base = (from, omega arith) in
          rw (prefixes_inside zero base h) (inside zero base b h)
    ]
  ]
  by_blocks Q inside outside halves (suc half) base b =
      let lower = by_blocks Q inside outside halves half base (lower_block half base b) in
      let upper = by_blocks Q inside outside halves half (base + 2 ^ half) (upper_block half base b) in
      elim (cases_Bool (is_inside first last base (2 ^ suc half))) [
        | inl holds ↦
            let h = inside_from first last base (2 ^ suc half) holds in
            rw (prefixes_inside (suc half) base h) (inside (suc half) base b h)
        | inr fails ↦
            let h : IsInside first last (suc half) base → ⊥ = λ h. absurd (cc (fails, inside_to first last base (2 ^ suc half) h.0 h.1)) in
            rw (prefixes_halves half base h) (halves half base _ _ b h lower upper)
      ]

-- the size of a block's halves
pub halved : (bits : ℕ) → 0 < bits → 2 ^ bits ≡ 2 ^ (bits - 1) + 2 ^ (bits - 1)
halved zero some = absurd (omega arith)
halved (suc half) some =
    let same : suc half - 1 ≡ half = omega arith in
    rw same (omega (arith, pow-suc 2 half))

-- the lines of the prefixes in a block
module _ (first last : ℕ) (line : ℕ × ℕ → List ℕ) where
  abbrev lines_in : ℕ → ℕ → List ℕ
  lines_in bits base = flat_map line (prefixes_in first last bits base)

  pub lines_inside : (bits base size : ℕ) → size ≡ 2 ^ bits → is_inside first last base size ≡ true → line (base, 32 - bits) ≡ lines_in bits base
  lines_inside bits base size is holds =
      let h = inside_from first last base size holds in
      rw (prefixes_inside first last bits base (h.0, omega (arith, h.1, is))) (sym (append-nil (line (base, 32 - bits))))

  not_inside : (bits base size : ℕ) → size ≡ 2 ^ bits → is_inside first last base size ≡ false → IsInside first last bits base → ⊥
  not_inside bits base size is fails h = absurd (cc (fails, inside_to first last base size h.0 (omega (arith, h.1, is))))

  pub lines_outside : (bits base size : ℕ) → size ≡ 2 ^ bits → is_outside first last base size ≡ true → [] ≡ lines_in bits base
  lines_outside bits base size is holds = elim (outside_from first last base size holds) [
    | inl before ↦ rw (prefixes_outside first last bits base (inl (omega (arith, is)))) refl
    | inr after ↦ rw (prefixes_outside first last bits base (inr after)) refl
  ]

  pub lines_single : (bits base size : ℕ) → size ≡ 2 ^ bits → is_inside first last base size ≡ false → bits ≡ 0 → [] ≡ lines_in bits base
  lines_single zero base size is fails single =
      let not = not_inside zero base size is fails in
      elim (cases_lt base first) [
        | inl before ↦ rw (prefixes_outside first last zero base (inl (omega arith))) refl
        | inr from ↦ elim (cases_lt last base) [
          | inl after ↦ rw (prefixes_outside first last zero base (inr after)) refl
          | inr to ↦ absurd (not (from, omega arith))
        ]
      ]
  lines_single (suc half) base size is fails single = absurd (omega arith)

  pub lines_halves : (bits base size : ℕ) → size ≡ 2 ^ bits → is_inside first last base size ≡ false → 0 < bits
      → lines_in (bits - 1) base ++ lines_in (bits - 1) (base + 2 ^ (bits - 1)) ≡ lines_in bits base
  lines_halves zero base size is fails some = absurd (omega arith)
  lines_halves (suc half) base size is fails some =
      let same : suc half - 1 ≡ half = omega arith in
      let not = not_inside (suc half) base size is fails in
      rw (same, prefixes_halves first last half base not) (sym (flat_map-append line (prefixes_in first last half base) (prefixes_in first last half (base + 2 ^ half))))

module _ {X : Type 0} (P : X → Type 0) where
  Any-one : (x : X) → P x → Any P (x ∷ [])
  Any-one x p = (0, x, omega arith, refl, p)

  pub Any-none : Any P [] → ⊥
  Any-none a = let l = a.2 in omega arith

  Any-tail : (x : X) (xs : List X) → Any P xs → Any P (x ∷ xs)
  Any-tail x xs a = (suc a.0, a.1, (let l = a.2 in omega arith), a.3, a.4)

  Any-cases : (x : X) (xs : List X) → Any P (x ∷ xs) → P x ⊎ Any P xs
  Any-cases x xs a = by_index x xs a.0 a.1 a.2 a.3 a.4 where
    by_index : (x : X) (xs : List X) (k : ℕ) (y : X) → k < length (x ∷ xs) → get_or (x ∷ xs) k y ≡ y → P y → P x ⊎ Any P xs
    by_index x xs zero y l e p = inl (subst P (sym e) p)
    by_index x xs (suc k) y l e p = inr (k, y, omega arith, e, p)

  -- some element of two lists is one of either
  Any-left : (xs ys : List X) → Any P xs → Any P (xs ++ ys)
  Any-left [] ys a = absurd (Any-none a)
  Any-left (x ∷ xs) ys a = elim (Any-cases x xs a) [
    | inl here ↦ (0, x, omega arith, refl, here)
    | inr later ↦ Any-tail x (xs ++ ys) (Any-left xs ys later)
  ]

  Any-right : (xs ys : List X) → Any P ys → Any P (xs ++ ys)
  Any-right [] ys a = a
  Any-right (x ∷ xs) ys a = Any-tail x (xs ++ ys) (Any-right xs ys a)

  Any-either : (xs ys : List X) → Any P (xs ++ ys) → Any P xs ⊎ Any P ys
  Any-either [] ys a = inr a
  Any-either (x ∷ xs) ys a = elim (Any-cases x (xs ++ ys) a) [
    | inl here ↦ inl (0, x, omega arith, refl, here)
    | inr later ↦ elim (Any-either xs ys later) [ inl in_xs ↦ inl (Any-tail x xs in_xs) | inr in_ys ↦ inr in_ys ]
  ]

  -- a test that such an element passes counts one at least
  count_some : (test : X → Bool) → ((x : X) → P x → test x ≡ true) → (xs : List X) → Any P xs → 1 ≤ count_by test xs
  count_some test passes [] a = absurd (Any-none a)
  count_some test passes (x ∷ xs) a =
      let sum = sum_by-cons (λ y. cond (test y) 1 0) x xs in
      elim (Any-cases x xs a) [
        | inl here ↦ let one = passes x here in let now : ◌≡◌ {A = ℕ} (cond (test x) 1 0) 1 = rw one refl in omega (arith, sum, now)
        | inr later ↦ let more = count_some test passes xs later in omega (arith, sum, more)
      ]

AllPairs-append : {X : Type 0} (R : X → X → Type 0) (S : X → Type 0) (xs ys : List X) → AllPairs R xs → AllPairs R ys → All S xs
    → ((x : X) → S x → All (R x) ys) → AllPairs R (xs ++ ys)
AllPairs-append R S [] ys of_xs of_ys of_x across = of_ys
AllPairs-append R S (x ∷ xs) ys of_xs of_ys of_x across =
    let rest = AllPairs-append R S xs ys (λ i j d l m. of_xs (suc i) (suc j) d (omega arith) (omega arith)) of_ys (All-tail S x xs of_x) across in
    AllPairs-cons R x (xs ++ ys) (All-append (R x) xs ys (λ k d l. of_xs 0 (suc k) d (omega arith) (omega arith)) (across x (All-head S x xs of_x))) rest

-- of an element that passes either of two tests, but not both, a third test counts as often as both
count_both : {X : Type 0} (P : X → Type 0) (one other both : X → Bool)
    → ((x : X) → P x → cond (one x) 1 0 + cond (other x) 1 0 ≤ cond (both x) 1 0)
    → (xs : List X) → All P xs → count_by one xs + count_by other xs ≤ count_by both xs
count_both P one other both at [] are = omega arith
count_both P one other both at (x ∷ xs) are =
    let rest = count_both P one other both at xs (All-tail P x xs are) in
    let first = at x (All-head P x xs are) in
    omega (arith, rest, first, sum_by-cons (λ y. cond (one y) 1 0) x xs, sum_by-cons (λ y. cond (other y) 1 0) x xs, sum_by-cons (λ y. cond (both y) 1 0) x xs)

-- the prefix of a block
abbrev block_prefix : (bits base : ℕ) → IsBlock bits base → Prefix
block_prefix bits base b = record { base = base; len = 32 - bits; is_prefix = block_is_prefix bits base b }

module _ (first last : ℕ) where
  -- the address is in the range and in the block
  abbrev InBoth : ℕ → ℕ → ℕ → Type 0
  InBoth bits base addr = (first ≤ addr) × (addr ≤ last) × (base ≤ addr) × (addr < base + 2 ^ bits)

  exact_inside : (bits base : ℕ) → IsBlock bits base → IsInside first last bits base → (addr : ℕ) → Any (IsOf addr) ((base, 32 - bits) ∷ []) ↔ InBoth bits base addr
  exact_inside bits base b h addr =
      let size = block_size bits b.few in (
        λ a. elim (Any-cases (IsOf addr) (base, 32 - bits) [] a) [
          | inl here ↦
              let from : base ≤ addr = here.0 in
              let below : addr < base + size_of (32 - bits) = here.1 in
              (omega (arith, h.0), omega (arith, h.1, size), from, omega (arith, size))
          | inr none ↦ absurd (Any-none (IsOf addr) none)
        ],
        λ both. Any-one (IsOf addr) (base, 32 - bits) (both.2, omega (arith, both.3, size)),
      )

  exact_outside : (bits base : ℕ) → IsBlock bits base → IsOutside first last bits base → (addr : ℕ) → Any (IsOf addr) [] ↔ InBoth bits base addr
  exact_outside bits base b h addr = (
    λ a. absurd (Any-none (IsOf addr) a),
    λ both. elim h [ inl before ↦ absurd (omega (arith, both.0, both.3)) | inr after ↦ absurd (omega (arith, both.1, both.2)) ],
  )

  exact_halves : (half base : ℕ) (lower upper : List (ℕ × ℕ)) → ((addr : ℕ) → Any (IsOf addr) lower ↔ InBoth half base addr)
      → ((addr : ℕ) → Any (IsOf addr) upper ↔ InBoth half (base + 2 ^ half) addr) → (addr : ℕ) → Any (IsOf addr) (lower ++ upper) ↔ InBoth (suc half) base addr
  exact_halves half base lower upper of_lower of_upper addr =
      let twice = pow-suc 2 half in (
        λ a. elim (Any-either (IsOf addr) lower upper a) [
          | inl low ↦ let both = (of_lower addr).0 low in (both.0, both.1, both.2, omega (arith, twice, both.3))
          | inr high ↦ let both = (of_upper addr).0 high in (both.0, both.1, omega (arith, both.2), omega (arith, twice, both.3))
        ],
        λ both. elim (cases_lt addr (base + 2 ^ half)) [
          | inl low ↦ Any-left (IsOf addr) lower upper ((of_lower addr).1 (both.0, both.1, both.2, low))
          | inr high ↦ Any-right (IsOf addr) lower upper ((of_upper addr).1 (both.0, both.1, high, omega (arith, twice, both.3)))
        ],
      )

  -- the prefixes in a block are those of the addresses of the range in it
  exact : (bits base : ℕ) → IsBlock bits base → (addr : ℕ) → Any (IsOf addr) (prefixes_in first last bits base) ↔ InBoth bits base addr
  exact = by_blocks first last (λ bits base list. (addr : ℕ) → Any (IsOf addr) list ↔ InBoth bits base addr) exact_inside exact_outside
      (λ half base lower upper b not of_lower of_upper. exact_halves half base lower upper of_lower of_upper)

  abbrev IsPair : ℕ × ℕ → Type 0
  IsPair p = IsPrefix p.0 p.1

  -- each of them is a prefix
  are_prefixes : (bits base : ℕ) → IsBlock bits base → All IsPair (prefixes_in first last bits base)
  are_prefixes = by_blocks first last (λ bits base list. All IsPair list)
      (λ bits base b h. All-cons IsPair (base, 32 - bits) [] (block_is_prefix bits base b) (All-nil IsPair))
      (λ bits base b h. All-nil IsPair)
      (λ half base lower upper b not of_lower of_upper. All-append IsPair lower upper of_lower of_upper)

  -- and ends before the next one begins
  abbrev Rises : ℕ × ℕ → ℕ × ℕ → Type 0
  Rises p q = p.0 + size_of p.1 ≤ q.0

  abbrev IsIn : ℕ → ℕ → ℕ × ℕ → Type 0
  IsIn bits base p = (base ≤ p.0) × (p.0 + size_of p.1 ≤ base + 2 ^ bits)

  rise_halves : (half base : ℕ) (lower upper : List (ℕ × ℕ)) → All (IsIn half base) lower × AllPairs Rises lower
      → All (IsIn half (base + 2 ^ half)) upper × AllPairs Rises upper → All (IsIn (suc half) base) (lower ++ upper) × AllPairs Rises (lower ++ upper)
  rise_halves half base lower upper of_lower of_upper =
      let twice = pow-suc 2 half in (
        All-append (IsIn (suc half) base) lower upper
            (All-weaker (IsIn half base) (IsIn (suc half) base) (λ p is. (is.0, omega (arith, is.1, twice))) lower of_lower.0)
            (All-weaker (IsIn half (base + 2 ^ half)) (IsIn (suc half) base) (λ p is. (omega (arith, is.0), omega (arith, is.1, twice))) upper of_upper.0),
        AllPairs-append Rises (IsIn half base) lower upper of_lower.1 of_upper.1 of_lower.0
            (λ p is. All-weaker (IsIn half (base + 2 ^ half)) (Rises p) (λ q later. omega (arith, is.1, later.0)) upper of_upper.0),
      )

  rise : (bits base : ℕ) → IsBlock bits base → All (IsIn bits base) (prefixes_in first last bits base) × AllPairs Rises (prefixes_in first last bits base)
  rise = by_blocks first last (λ bits base list. All (IsIn bits base) list × AllPairs Rises list)
      (λ bits base b h.
      let size = block_size bits b.few in (
        All-cons (IsIn bits base) (base, 32 - bits) [] (omega arith, omega (arith, size)) (All-nil (IsIn bits base)),
        λ i j d l m. absurd (omega arith),
      ))
      (λ bits base b h. (All-nil (IsIn bits base), λ i j d l m. absurd (omega arith)))
      (λ half base lower upper b not of_lower of_upper. rise_halves half base lower upper of_lower of_upper)

-- true if the prefix and the block have an address in common
abbrev meets : ℕ → ℕ → ℕ × ℕ → Bool
meets bits base q = nat_lt q.0 (base + 2 ^ bits) && nat_lt base (q.0 + size_of q.1)

module _ (ranges : CoversItsRange) (whole : ContainsWhatItCovers) (nested : CoveringAreNested) (first last : ℕ) where
  -- a prefix whose addresses are in the range
  record IsWithin (q : ℕ × ℕ) : Type 0 where
    is_prefix : IsPrefix q.0 q.1
    each : (addr : ℕ) → IsOf addr q → (first ≤ addr) × (addr ≤ last)

  -- a prefix with the last address of a block's lower half and the first of the upper half has all addresses of the block
  spans : (half base : ℕ) → IsBlock (suc half) base → (q : ℕ × ℕ) → IsPrefix q.0 q.1 → q.0 < base + 2 ^ half → base + 2 ^ half < q.0 + size_of q.1
      → (addr : ℕ) → base ≤ addr → addr < base + 2 ^ suc half → IsOf addr q
  spans half base b q is before after addr from below =
      let twice = pow-suc 2 half in
      let some = pow_pos half in
      let size = block_size (suc half) b.few in
      let half_size = block_size half (omega (arith, b.few)) in
      let all : Prefix = block_prefix (suc half) base b in
      let high : Prefix = block_prefix half (base + 2 ^ half) (upper_block half base b) in
      let it : Prefix = record { base = q.0; len = q.1; is_prefix = is } in
      let at : Addr = record { 0 = base + 2 ^ half } in
      let of_it = (ranges it at).1 (omega (arith, before), after) in
      let of_all = (ranges all at).1 (omega arith, omega (arith, size, twice, some)) in
      let of_high = (ranges high at).1 (omega arith, omega (arith, half_size, some)) in
      elim (cases_lt (32 - suc half) q.1) [
        | inl longer ↦
            let inside = (whole high it).0 (nested high it at of_high of_it (omega (arith, longer, b.few))) in
            let start : Addr = record { 0 = q.0 } in
            let covered = inside start is.fits ((ranges it start).1 (omega arith, omega (arith, size_pos q.1))) in
            absurd (omega (arith, ((ranges high start).0 covered).0, before))
        | inr shorter ↦
            let inside = (whole it all).0 (nested it all at of_it of_all shorter) in
            let one : Addr = record { 0 = addr } in
            let covered = inside one (omega (arith, below, b.fits)) ((ranges all one).1 (from, omega (arith, below, size))) in
            (ranges it one).0 covered
      ]

  meets_parts : (bits base : ℕ) (q : ℕ × ℕ) → meets bits base q ≡ true → (q.0 < base + 2 ^ bits) × (base < q.0 + size_of q.1)
  meets_parts bits base q h = let both = and_parts _ _ h in (ltb-true _ _ both.0, ltb-true _ _ both.1)

  meets_from : (bits base : ℕ) (q : ℕ × ℕ) → q.0 < base + 2 ^ bits → base < q.0 + size_of q.1 → meets bits base q ≡ true
  meets_from bits base q begins ends = and_from _ _ (lt-ltb _ _ begins) (lt-ltb _ _ ends)

  -- a prefix within the range meets one half at most of a block that isn't inside the range
  meets_half : (half base : ℕ) → IsBlock (suc half) base → (IsInside first last (suc half) base → ⊥) → (q : ℕ × ℕ) → IsWithin q
      → meets half base q ≡ true → meets half (base + 2 ^ half) q ≡ true → ⊥
  meets_half half base b not q is low high =
      let some = pow_pos (suc half) in
      let of_low = meets_parts half base q low in
      let of_high = meets_parts half (base + 2 ^ half) q high in
      let all = spans half base b q is.is_prefix of_low.0 of_high.1 in
      let begins = is.each base (all base (omega arith) (omega arith)) in
      let ends = is.each (base + 2 ^ suc half - 1) (all (base + 2 ^ suc half - 1) (omega arith) (omega arith)) in
      not (begins.0, omega (arith, ends.1))

  meets_once : (half base : ℕ) → IsBlock (suc half) base → (IsInside first last (suc half) base → ⊥) → (q : ℕ × ℕ) → IsWithin q
      → cond (meets half base q) 1 0 + cond (meets half (base + 2 ^ half) q) 1 0 ≤ cond (meets (suc half) base q) 1 0
  meets_once half base b not q is =
      let twice = pow-suc 2 half in
      elim (cases_Bool (meets half base q)) [
        | inl low ↦ elim (cases_Bool (meets half (base + 2 ^ half) q)) [
          | inl high ↦ absurd (meets_half half base b not q is low high)
          | inr fails ↦
              let parts = meets_parts half base q low in
              let both = meets_from (suc half) base q (omega (arith, parts.0, twice)) parts.1 in
              rw (low, fails, both) (omega arith)
        ]
        | inr fails ↦ elim (cases_Bool (meets half (base + 2 ^ half) q)) [
          | inl high ↦
              let parts = meets_parts half (base + 2 ^ half) q high in
              let both = meets_from (suc half) base q (omega (arith, parts.0, twice)) (omega (arith, parts.1)) in
              rw (fails, high, both) (omega arith)
          | inr neither ↦ rw (fails, neither) (omega arith)
        ]
      ]

  module _ (other : List (ℕ × ℕ)) (makes : MakeUp first last other) where
    within : All IsWithin other
    within k d l = record {
      is_prefix = makes.each k d l;
      each = λ addr of. (makes.addresses addr).0 (k, get_or other k d, l, get_or_default other k (get_or other k d) d l, of);
    }

    -- the list has a prefix that meets a block inside the range
    some_meets : (bits base : ℕ) → IsBlock bits base → IsInside first last bits base → 1 ≤ count_by (meets bits base) other
    some_meets bits base b h =
        let some = pow_pos bits in
        count_some (IsOf base) (meets bits base) (λ q of. meets_from bits base q (omega (arith, of.0, some)) of.1) other
        ((makes.addresses base).1 (h.0, omega (arith, h.1, some)))

    -- and as many that meet a block as the range has prefixes in it
    as_many : (bits base : ℕ) → IsBlock bits base → length (prefixes_in first last bits base) ≤ count_by (meets bits base) other
    as_many = by_blocks first last (λ bits base list. length list ≤ count_by (meets bits base) other) some_meets (λ bits base b h. omega arith)
        (λ half base lower upper b not of_lower of_upper.
        let once = count_both IsWithin (meets half base) (meets half (base + 2 ^ half)) (meets (suc half) base) (meets_once half base b not) other within in
        omega (arith, once, of_lower, of_upper, length-append lower upper))

    no_more : length (prefixes_of first last) ≤ length other
    no_more = omega (arith, as_many 32 0 whole_block, count_by-le-length (meets 32 0) other)

pub prefixes_make_up : PrefixesMakeUp
prefixes_make_up first last fits = record {
  each = are_prefixes first last 32 0 whole_block;
  addresses = λ addr.
      let same = exact first last 32 0 whole_block addr in (
        λ of. let both = same.0 of in (both.0, both.1),
        λ in'. same.1 (in'.0, in'.1, omega arith, omega (arith, in'.1, fits)),
      );
}

pub prefixes_rise : PrefixesRise
prefixes_rise first last = (rise first last 32 0 whole_block).1

pub are_fewest : CoversItsRange → ContainsWhatItCovers → CoveringAreNested → AreFewest
are_fewest ranges whole nested first last other makes = no_more ranges whole nested first last other makes

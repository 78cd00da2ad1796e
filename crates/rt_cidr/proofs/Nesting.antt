-- How prefixes relate: those that cover the same address are nested, and containing means covering all addresses.
use Rattle.std.proofs.Common.{◌≡◌, ℕ, ◌+◌, ◌-◌, ◌*◌, ◌/◌, ◌%◌, ◌^◌, ◌<◌, ◌≤◌, inl, inr, sym, ap, ◌∙◌, lit≤, arith, IsTrue, ◌↔◌, le-leb, eq-eqb, eqb-true}
use Rattle.std.proofs.Math.Nat.{sub-zero, pow-le-pow_right, mul-le-mul_right, mul-le-mul_left}
use Rattle.std.proofs.lemmas.Bool.{and_parts, and_from, leb-true, cases_lt}
use Rattle.std.proofs.lemmas.Nat.{pow-add, shr-shr, div-add-mod'}
use Rattle.rt_cidr.specs.declared.address.Addr.{Addr}
use Rattle.rt_cidr.specs.declared.prefixes.Prefix.{Prefix}
use Rattle.rt_cidr.specs.Cidr.{size_of}
use Rattle.rt_cidr.specs.Prefix.{covers, contains}
use Rattle.rt_cidr.proofs.Ranges.{prefix_by_parts, size_pos, covers_range}

-- a shorter length has larger blocks, each a whole number of the longer one's
size_grows : (m n : ℕ) → m ≤ n → n ≤ 32 → size_of m ≡ size_of n * 2 ^ (n - m)
size_grows m n le short =
    let split : 32 - m ≡ (32 - n) + (n - m) = omega arith in
    ap (λ k. 2 ^ k) split ∙ pow-add 2 (32 - n) (n - m)

-- two addresses that share the first n bits share the first m
fewer_bits : (m n a b : ℕ) → m ≤ n → n ≤ 32 → a / size_of n ≡ b / size_of n → a / size_of m ≡ b / size_of m
fewer_bits m n a b le short same =
    let split : (32 - n) + (n - m) ≡ 32 - m = omega arith in
    let up : (x : ℕ) → x / size_of m ≡ x / size_of n / 2 ^ (n - m) = λ x. rw (← split) (sym (shr-shr x (32 - n) (n - m))) in
    up a ∙ ap (λ q. q / 2 ^ (n - m)) same ∙ sym (up b)

covered : (p : Prefix) (a : Addr) → IsTrue (covers p a) → a.0 / size_of p.len ≡ p.base / size_of p.len
covered p a h = eqb-true _ _ h

-- if two prefixes cover the same address, the shorter contains the longer
pub covering_are_nested : (p q : Prefix) (a : Addr) → IsTrue (covers p a) → IsTrue (covers q a) →
    p.len ≤ q.len → IsTrue (contains p q)
covering_are_nested p q a by_p by_q le =
    let shared = fewer_bits p.len q.len a.0 q.base le q.is_prefix.short (covered q a by_q) in
    and_from _ _ (le-leb _ _ le) (eq-eqb _ _ (sym shared ∙ covered p a by_p))

-- two prefixes that cover the same address and are equally long are equal
pub covering_are_same : (p q : Prefix) (a : Addr) → IsTrue (covers p a) → IsTrue (covers q a) → p.len ≡ q.len → p ≡ q
covering_are_same p q a by_p by_q len =
    let one = covered p a by_p in
    let two = rw (sym len) at (covered q a by_q) in
    let blocks : p.base / size_of p.len * size_of p.len ≡ q.base / size_of p.len * size_of p.len = ap (λ n. n * size_of p.len) (sym one ∙ two) in
    let p_clear = p.is_prefix.clear in
    let q_clear = rw (sym len) at q.is_prefix.clear in
    prefix_by_parts p q (omega (arith, div-add-mod' p.base (size_of p.len), div-add-mod' q.base (size_of p.len))) len

-- a prefix covers all addresses that a prefix in it covers
contains_covers : (p q : Prefix) → IsTrue (contains p q) → (a : Addr) → IsTrue (covers q a) → IsTrue (covers p a)
contains_covers p q h a by_q =
    let (longer, base) = and_parts _ _ h in
    let shared = fewer_bits p.len q.len a.0 q.base (leb-true _ _ longer) q.is_prefix.short (covered q a by_q) in
    eq-eqb _ _ (shared ∙ eqb-true _ _ base)

-- a block that begins below a multiple of its size ends there or earlier
block_ends : (size count base : ℕ) → base % size ≡ 0 → base < size * count → base + size ≤ size * count
block_ends size count base clear below =
    let place = div-add-mod' base size in
    elim (cases_lt (base / size) count) [
      | inl inside ↦ let next = mul-le-mul_right size inside in omega arith
      | inr past ↦ let over = mul-le-mul_right size past in absurd (omega arith)
    ]

-- the last address that a prefix covers has 32 bits
last_fits : (q : Prefix) → q.base + size_of q.len ≤ 2 ^ 32
last_fits q =
    let whole : 2 ^ 32 ≡ size_of q.len * 2 ^ q.len = rw (sub-zero q.len) at (size_grows 0 q.len (omega arith) q.is_prefix.short) in
    let ends = block_ends (size_of q.len) (2 ^ q.len) q.base q.is_prefix.clear (omega (arith, q.is_prefix.fits)) in
    omega arith

-- the blocks of a longer length have at most half the size
halved : (m n : ℕ) → m < n → n ≤ 32 → 2 * size_of n ≤ size_of m
halved m n lt short =
    let some : 1 ≤ n - m = omega arith in
    let twice : 2 ^ 1 ≤ 2 ^ (n - m) = pow-le-pow_right (lit≤ tt) some in
    let grown = mul-le-mul_left (size_of n) twice in
    omega (arith, size_grows m n (omega arith) short)

covers_contains : (p q : Prefix) → ((a : Addr) → a.0 < 2 ^ 32 → IsTrue (covers q a) → IsTrue (covers p a)) →
    IsTrue (contains p q)
covers_contains p q all =
    let first : Addr = record { 0 = q.base } in
    let last : Addr = record { 0 = q.base + size_of q.len - 1 } in
    let some = size_pos q.len in
    let fits = last_fits q in
    let from_first = (covers_range p first).0 (all first (omega arith) ((covers_range q first).1 (omega arith, omega arith))) in
    let to_last = (covers_range p last).0 (all last (omega arith) ((covers_range q last).1 (omega arith, omega arith))) in
    let by_base = covered p first (all first (omega arith) ((covers_range q first).1 (omega arith, omega arith))) in
    let longer : p.len ≤ q.len = elim (cases_lt q.len p.len) [
      | inr le ↦ le
      | inl shorter ↦ let half = halved q.len p.len shorter p.is_prefix.short in let p_some = size_pos p.len in absurd (omega arith)
    ] in
    and_from _ _ (le-leb _ _ longer) (eq-eqb _ _ by_base)

pub contains_is_covering_whole : (p q : Prefix) →
    IsTrue (contains p q) ↔ ((a : Addr) → a.0 < 2 ^ 32 → IsTrue (covers q a) → IsTrue (covers p a))
contains_is_covering_whole p q = (λ h a small. contains_covers p q h a, covers_contains p q)

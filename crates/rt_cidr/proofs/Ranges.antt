-- Prefixes as ranges of addresses, and when two prefixes are equal.
use Rattle.std.proofs.Common.{◌≡◌, ℕ, ◌+◌, ◌-◌, ◌*◌, ◌/◌, ◌%◌, ◌<◌, ◌≤◌, ap, ◌∙◌, subst, arith, IsTrue, ◌↔◌, le-leb, eq-eqb, eqb-true}
use Rattle.std.proofs.lemmas.Bool.{and_parts, and_from, leb-true}
use Rattle.std.proofs.Props.{props}
use Rattle.std.proofs.lemmas.Nat.{pow_pos, div-mul-add, div-add-mod'}
use Rattle.rt_cidr.specs.declared.address.Addr.{Addr}
use Rattle.rt_cidr.specs.declared.prefixes.Prefix.{Prefix}
use Rattle.rt_cidr.specs.Cidr.{size_of, IsPrefix}
use Rattle.rt_cidr.specs.Prefix.{covers, contains}

-- that a pair is a prefix has only one proof
pub IsPrefix-prop : (base len : ℕ) → IsProp (IsPrefix base len)
IsPrefix-prop base len = hlevel props

pair_same : (base len : ℕ) (one two : IsPrefix base len) →
    ◌≡◌ {A = Prefix} (record { base = base; len = len; is_prefix = one }) (record { base = base; len = len; is_prefix = two })
pair_same base len one two = ap (λ (h : IsPrefix base len). let p : Prefix = record {
  base = base;
  len = len;
  is_prefix = h;
} in p) (IsPrefix-prop base len one two)

-- two prefixes with the same base and length are equal
pub prefix_by_parts : (p q : Prefix) → p.base ≡ q.base → p.len ≡ q.len → p ≡ q
prefix_by_parts p q base len =
    let Base : ℕ → Type 0 = λ b. (h : IsPrefix b p.len) → ◌≡◌ {A = Prefix} p (record { base = b; len = p.len; is_prefix = h }) in
    let Len : ℕ → Type 0 = λ n. (h : IsPrefix q.base n) → ◌≡◌ {A = Prefix} p (record { base = q.base; len = n; is_prefix = h }) in
    subst Len len (subst Base base (λ h. pair_same p.base p.len p.is_prefix h)) q.is_prefix

-- a prefix covers some address
pub size_pos : (len : ℕ) → 0 < size_of len
size_pos len = pow_pos (32 - len)

-- a number has the same quotient as a multiple if and only if it is in the multiple's block
pub same_quotient_is_in_block : (size base a : ℕ) → 0 < size → base % size ≡ 0 → a / size ≡ base / size →
    (base ≤ a) × (a < base + size)
same_quotient_is_in_block size base a some clear same =
    let of_a = div-add-mod' a size in
    let of_base = div-add-mod' base size in
    let blocks : a / size * size ≡ base / size * size = ap (λ q. q * size) same in
    (omega arith, omega arith)

pub in_block_is_same_quotient : (size base a : ℕ) → 0 < size → base % size ≡ 0 → base ≤ a → a < base + size →
    a / size ≡ base / size
in_block_is_same_quotient size base a some clear from below =
    let of_base = div-add-mod' base size in
    let placed : a ≡ base / size * size + (a - base) = omega arith in
    ap (λ n. n / size) placed ∙ div-mul-add (base / size) size (a - base) (omega arith)

-- a prefix covers the addresses from its base on, as many as its size
pub covers_range : (p : Prefix) (a : Addr) → IsTrue (covers p a) ↔ ((p.base ≤ a.0) × (a.0 < p.base + size_of p.len))
covers_range p a = (
  λ h. same_quotient_is_in_block (size_of p.len) p.base a.0 (size_pos p.len) p.is_prefix.clear (eqb-true _ _ h),
  λ h. eq-eqb _ _ (in_block_is_same_quotient (size_of p.len) p.base a.0 (size_pos p.len) p.is_prefix.clear h.0 h.1),
)

-- a prefix contains those that aren't shorter and whose base is in its range
pub contains_range : (p q : Prefix) →
    IsTrue (contains p q) ↔ ((p.len ≤ q.len) × (p.base ≤ q.base) × (q.base < p.base + size_of p.len))
contains_range p q =
    let base : Addr = record { 0 = q.base } in
    let range = covers_range p base in (
      λ h.
          let (longer, covered) = and_parts _ _ h in
          let inside = range.0 covered in
          (leb-true _ _ longer, inside.0, inside.1),
      λ h. and_from _ _ (le-leb _ _ h.0) (range.1 (h.1, h.2)),
    )

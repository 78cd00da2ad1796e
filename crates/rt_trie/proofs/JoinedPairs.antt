-- Look-up, insertion and removal in a list of pairs that is the concatenation of parts.
use Rattle.std.proofs.Common.{◌≡◌, ◌<◌, ◌≤◌, false, cond, [], ◌∷◌, ◌++◌, Option, Some, None, refl, sym, ap, ◌∙◌, arith, inl, inr}
use Rattle.rt_cidr.specs.declared.prefixes.Prefix.{Prefix}
use Rattle.rt_cidr.specs.declared.address.Addr.{Addr}
use Rattle.rt_cidr.specs.Prefix.{covers}
use Rattle.rt_trie.specs.Map.{Pairs, same_prefix, get, put, erase, first, next_after}
use Rattle.rt_trie.specs.inside.Links.{or_else, last_cover}
use Rattle.rt_trie.proofs.PrefixOrder.{rank, same_tells, before_tells, same_rank, other_rank, lower_rank, higher_rank}

-- every prefix of the list satisfies P
abbrev pub AllKeys : {V : Type 0} → (Prefix → Type 0) → Pairs V → Type 0
AllKeys P [] = Unit {0}
AllKeys P ((q, v) ∷ rest) = P q × AllKeys P rest

pub AllKeys-append : {V : Type 0} (P : Prefix → Type 0) (xs ys : Pairs V) → AllKeys P xs → AllKeys P ys → AllKeys P (xs ++ ys)
AllKeys-append P [] ys h k = k
AllKeys-append P ((q, v) ∷ xs) ys h k = (h.0, AllKeys-append P xs ys h.1 k)

pub AllKeys-map : {V : Type 0} (P Q : Prefix → Type 0) (xs : Pairs V) → ((q : Prefix) → P q → Q q) → AllKeys P xs → AllKeys Q xs
AllKeys-map P Q [] f h = tt
AllKeys-map P Q ((q, v) ∷ xs) f h = (f q h.0, AllKeys-map P Q xs f h.1)

-- q is another prefix than p, is before p, or is after p
abbrev pub IsOther : Prefix → Prefix → Type 0
IsOther p q = same_prefix q p ≡ false

abbrev pub IsLower : Prefix → Prefix → Type 0
IsLower p q = rank q < rank p

abbrev pub IsHigher : Prefix → Prefix → Type 0
IsHigher p q = rank p < rank q

pub IsOther-lower : (p q : Prefix) → IsLower p q → IsOther p q
IsOther-lower p q h = other_rank q p (omega arith)

pub IsOther-higher : (p q : Prefix) → IsHigher p q → IsOther p q
IsOther-higher p q h = other_rank q p (omega arith)

pub or_none : {X : Type 0} (o : Option X) → or_else o None ≡ o
or_none None = refl
or_none (Some x) = refl

pub or_assoc : {X : Type 0} (x y z : Option X) → or_else (or_else x y) z ≡ or_else x (or_else y z)
or_assoc None y z = refl
or_assoc (Some w) y z = refl

module _ {V : Type 0} where
  -- the look-up

  pub get-skip : (xs ys : Pairs V) (p : Prefix) → AllKeys (IsOther p) xs → get (xs ++ ys) p ≡ get ys p
  get-skip [] ys p h = refl
  get-skip ((q, v) ∷ xs) ys p h = rw h.0 (get-skip xs ys p h.1)

  pub get-none : (xs : Pairs V) (p : Prefix) → AllKeys (IsOther p) xs → get xs p ≡ None
  get-none [] p h = refl
  get-none ((q, v) ∷ xs) p h = rw h.0 (get-none xs p h.1)

  pub get-front : (xs ys : Pairs V) (p : Prefix) → AllKeys (IsOther p) ys → get (xs ++ ys) p ≡ get xs p
  get-front [] ys p h = get-none ys p h
  get-front ((q, v) ∷ xs) ys p h = ap (λ r. cond (same_prefix q p) (Some v) r) (get-front xs ys p h)

  -- insertion

  pub put-first : (xs : Pairs V) (p : Prefix) (v : V) → AllKeys (IsHigher p) xs → put xs p v ≡ (p, v) ∷ xs
  put-first [] p v h = refl
  put-first ((q, w) ∷ xs) p v h = rw (lower_rank p q h.0) refl

  pub put-skip : (xs ys : Pairs V) (p : Prefix) (v : V) → AllKeys (IsLower p) xs → put (xs ++ ys) p v ≡ xs ++ put ys p v
  put-skip [] ys p v h = refl
  put-skip ((q, w) ∷ xs) ys p v h =
      let l = h.0 in
      rw (higher_rank p q (omega arith), IsOther-lower p q h.0) (ap (λ r. (q, w) ∷ r) (put-skip xs ys p v h.1))

  pub put-front : (xs ys : Pairs V) (p : Prefix) (v : V) → AllKeys (IsHigher p) ys → put (xs ++ ys) p v ≡ put xs p v ++ ys
  put-front [] ys p v h = put-first ys p v h
  put-front ((q, w) ∷ xs) ys p v h = elim (before_tells p q) [
    | inl b ↦ rw b.0 refl
    | inr b ↦ elim (same_tells q p) [
      | inl s ↦ rw (b.0, s.0) refl
      | inr s ↦ rw (b.0, s.0) (ap (λ r. (q, w) ∷ r) (put-front xs ys p v h))
    ]
  ]

  pub put-here : (xs : Pairs V) (q : Prefix) (w v : V) → put ((q, w) ∷ xs) q v ≡ (q, v) ∷ xs
  put-here xs q w v = rw (higher_rank q q (omega arith), same_rank q q refl refl) refl

  -- removal

  pub erase-skip : (xs ys : Pairs V) (p : Prefix) → AllKeys (IsOther p) xs → erase (xs ++ ys) p ≡ xs ++ erase ys p
  erase-skip [] ys p h = refl
  erase-skip ((q, v) ∷ xs) ys p h = rw h.0 (ap (λ r. (q, v) ∷ r) (erase-skip xs ys p h.1))

  pub erase-none : (xs : Pairs V) (p : Prefix) → AllKeys (IsOther p) xs → erase xs p ≡ xs
  erase-none [] p h = refl
  erase-none ((q, v) ∷ xs) p h = rw h.0 (ap (λ r. (q, v) ∷ r) (erase-none xs p h.1))

  pub erase-front : (xs ys : Pairs V) (p : Prefix) → AllKeys (IsOther p) ys → erase (xs ++ ys) p ≡ erase xs p ++ ys
  erase-front [] ys p h = erase-none ys p h
  erase-front ((q, v) ∷ xs) ys p h = elim (same_tells q p) [
    | inl s ↦ rw s.0 refl
    | inr s ↦ rw s.0 (ap (λ r. (q, v) ∷ r) (erase-front xs ys p h))
  ]

  pub erase-here : (xs : Pairs V) (q : Prefix) (v : V) → erase ((q, v) ∷ xs) q ≡ xs
  erase-here xs q v = rw (same_rank q q refl refl) refl

  -- the first prefix, and the next after a prefix

  pub first-append : (xs ys : Pairs V) → first (xs ++ ys) ≡ or_else (first xs) (first ys)
  first-append [] ys = refl
  first-append ((q, v) ∷ xs) ys = refl

  pub after-append : (xs ys : Pairs V) (p : Prefix) → next_after (xs ++ ys) p ≡ or_else (next_after xs p) (next_after ys p)
  after-append [] ys p = refl
  after-append ((q, v) ∷ xs) ys p = elim (before_tells p q) [
    | inl b ↦ rw b.0 refl
    | inr b ↦ rw b.0 (after-append xs ys p)
  ]

  pub after-skip : (xs ys : Pairs V) (p : Prefix) → AllKeys (λ q. rank q ≤ rank p) xs → next_after (xs ++ ys) p ≡ next_after ys p
  after-skip [] ys p h = refl
  after-skip ((q, v) ∷ xs) ys p h = rw (higher_rank p q h.0) (after-skip xs ys p h.1)

  pub after-none : (xs : Pairs V) (p : Prefix) → AllKeys (λ q. rank q ≤ rank p) xs → next_after xs p ≡ None
  after-none [] p h = refl
  after-none ((q, v) ∷ xs) p h = rw (higher_rank p q h.0) (after-none xs p h.1)

  pub after-first : (xs : Pairs V) (p : Prefix) → AllKeys (IsHigher p) xs → next_after xs p ≡ first xs
  after-first [] p h = refl
  after-first ((q, v) ∷ xs) p h = rw (lower_rank p q h.0) refl

  -- the longest match

  pub last_cover-none : (xs : Pairs V) (a : Addr) → AllKeys (λ q. covers q a ≡ false) xs → last_cover xs a ≡ None
  last_cover-none [] a h = refl
  last_cover-none ((q, v) ∷ xs) a h = rw (last_cover-none xs a h.1, h.0) refl

  pub last_cover-append : (xs ys : Pairs V) (a : Addr) → last_cover (xs ++ ys) a ≡ or_else (last_cover ys a) (last_cover xs a)
  last_cover-append [] ys a = sym (or_none (last_cover ys a))
  last_cover-append ((q, v) ∷ xs) ys a =
      ap (λ o. or_else o (cond (covers q a) (Some (q, v)) None)) (last_cover-append xs ys a)
      ∙ or_assoc (last_cover ys a) (last_cover xs a) (cond (covers q a) (Some (q, v)) None)

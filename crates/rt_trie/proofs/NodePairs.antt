-- Look-ups in a node's list of pairs, in terms of the lists of its two sides: which part a prefix or an address
-- concerns.
use Rattle.std.proofs.Common.{◌≡◌, ◌≢◌, ℕ, ◌+◌, ◌<◌, ◌≤◌, ◌⊎◌, inl, inr, true, false, [], ◌∷◌, ◌++◌, Option, Some, None, refl, sym, ap, ◌∙◌, leb, arith}
use Rattle.std.specs.Prelude.{IfSome}
use Rattle.std.proofs.lemmas.Bool.{cases_lt}
use Rattle.std.proofs.lemmas.Bool.Decides.{leb_tells}
use Rattle.std.proofs.lemmas.List.Elements.{filter-append}
use Rattle.rt_cidr.specs.declared.prefixes.Prefix.{Prefix}
use Rattle.rt_cidr.specs.declared.address.Addr.{Addr}
use Rattle.rt_cidr.specs.Prefix.{covers}
use Rattle.rt_trie.specs.inside.Links.{or_else, last_cover, no_longer, own_pair}
use Rattle.rt_trie.specs.Map.{Pairs, same_prefix, get, first, next_after, IsBeforeAll, IsOrdered}
use Rattle.rt_trie.specs.Halves.{IsInBlock, middle, past}
use Rattle.rt_trie.proofs.PrefixOrder.{rank, lower_rank, other_rank}
use Rattle.rt_cidr.proofs.Promised.{size_pos}
use Rattle.rt_trie.proofs.Blocks.{covers_tells, outside_of_covers}
use Rattle.rt_trie.proofs.JoinedPairs.{AllKeys, AllKeys-append, AllKeys-map, IsOther, IsLower, IsHigher, IsOther-lower}
use Rattle.rt_trie.proofs.JoinedPairs.{IsOther-higher, get-skip, get-none, get-front, after-append, after-skip}
use Rattle.rt_trie.proofs.JoinedPairs.{after-none, after-first, or_none, or_assoc, last_cover-none, last_cover-append}

-- the pairs on the two sides are in the two halves
pub record AreSides {V : Type 0} (q : Prefix) (xs ys : Pairs V) : Type 0 where
  pub lower : AllKeys (IsInBlock q.base (middle q) (q.len + 1)) xs
  pub upper : AllKeys (IsInBlock (middle q) (past q) (q.len + 1)) ys

pub IsOther-len : (p q : Prefix) → q.len ≢ p.len → IsOther p q
IsOther-len p q n = let s = p.is_prefix.short in let t = q.is_prefix.short in other_rank q p (λ e. n (omega arith))

module _ {V : Type 0} where
  -- a number between the two parts separates them in the order
  IsBeforeAll-higher : (p : Prefix) (ys : Pairs V) → AllKeys (IsHigher p) ys → IsBeforeAll p ys
  IsBeforeAll-higher p [] h = tt
  IsBeforeAll-higher p ((q, v) ∷ ys) h = (lower_rank p q h.0, IsBeforeAll-higher p ys h.1)

  IsBeforeAll-append : (p : Prefix) (xs ys : Pairs V) → IsBeforeAll p xs → IsBeforeAll p ys → IsBeforeAll p (xs ++ ys)
  IsBeforeAll-append p [] ys h k = k
  IsBeforeAll-append p ((q, v) ∷ xs) ys h k = (h.0, IsBeforeAll-append p xs ys h.1 k)

  IsOrdered-append : (mid : ℕ) (xs ys : Pairs V) → IsOrdered xs → AllKeys (λ x. x.base < mid) xs → IsOrdered ys
      → AllKeys (λ y. mid ≤ y.base) ys → IsOrdered (xs ++ ys)
  IsOrdered-append mid [] ys h k i j = i
  IsOrdered-append mid ((p, v) ∷ xs) ys h k i j = (
    IsBeforeAll-append p xs ys h.0
        (IsBeforeAll-higher p ys (AllKeys-map (λ y. mid ≤ y.base) (IsHigher p) ys (λ y le. below p y k.0 le) j)),
    IsOrdered-append mid xs ys h.1 k.1 i j,
  )
    where
      below : (p y : Prefix) → p.base < mid → mid ≤ y.base → IsHigher p y
      below p y lt le = let s = p.is_prefix.short in omega arith

module _ {V : Type 0} (q : Prefix) (v : Option V) (xs ys : Pairs V) (sides : AreSides q xs ys) where
  -- the pairs of both sides come after the node
  pub sides_higher : AllKeys (IsHigher q) (xs ++ ys)
  sides_higher =
      AllKeys-append (IsHigher q) xs ys
      (AllKeys-map (IsInBlock q.base (middle q) (q.len + 1)) (IsHigher q) xs (λ x h. omega (arith, h.long, h.from)) sides.lower)
      (AllKeys-map (IsInBlock (middle q) (past q) (q.len + 1)) (IsHigher q) ys (λ x h. omega (arith, h.long, h.from)) sides.upper)

  pub sides_longer : AllKeys (λ x. q.len < x.len) (xs ++ ys)
  sides_longer =
      AllKeys-append (λ x. q.len < x.len) xs ys
      (AllKeys-map (IsInBlock q.base (middle q) (q.len + 1)) (λ x. q.len < x.len) xs (λ x h. omega (arith, h.long)) sides.lower)
      (AllKeys-map (IsInBlock (middle q) (past q) (q.len + 1)) (λ x. q.len < x.len) ys (λ x h. omega (arith, h.long)) sides.upper)

  pub lower_below : AllKeys (λ x. x.base < middle q) xs
  lower_below = AllKeys-map (IsInBlock q.base (middle q) (q.len + 1)) (λ x. x.base < middle q) xs (λ x h. omega (arith, h.to, size_pos x.len)) sides.lower

  pub upper_from : AllKeys (λ x. middle q ≤ x.base) ys
  upper_from = AllKeys-map (IsInBlock (middle q) (past q) (q.len + 1)) (λ x. middle q ≤ x.base) ys (λ x h. h.from) sides.upper

  -- a prefix that begins below the middle comes before the upper side; the lower side comes before one that begins at
  -- or after the middle
  pub upper_higher : (p : Prefix) → p.base < middle q → AllKeys (IsHigher p) ys
  upper_higher p h = AllKeys-map (λ x. middle q ≤ x.base) (IsHigher p) ys (λ x k. let s = p.is_prefix.short in omega arith) upper_from

  pub lower_lower : (p : Prefix) → middle q ≤ p.base → AllKeys (IsLower p) xs
  lower_lower p h = AllKeys-map (λ x. x.base < middle q) (IsLower p) xs (λ x k. let s = x.is_prefix.short in omega arith) lower_below

  -- a prefix in one half isn't among the pairs of the other
  pub upper_other : (p : Prefix) → p.base < middle q → AllKeys (IsOther p) ys
  upper_other p h = AllKeys-map (IsHigher p) (IsOther p) ys (λ x. IsOther-higher p x) (upper_higher p h)

  pub lower_other : (p : Prefix) → middle q ≤ p.base → AllKeys (IsOther p) xs
  lower_other p h = AllKeys-map (IsLower p) (IsOther p) xs (λ x. IsOther-lower p x) (lower_lower p h)

  -- the node's own pair comes before longer prefixes
  pub own_lower : (p : Prefix) → q.base ≤ p.base → q.len < p.len → AllKeys (IsLower p) (own_pair q v)
  own_lower p h k = elim v as (λ o. AllKeys (IsLower p) (own_pair q o)) [ None ↦ tt | Some w ↦ (omega arith, tt) ]

  pub own_other : (p : Prefix) → q.len < p.len → AllKeys (IsOther p) (own_pair q v)
  own_other p k = elim v as (λ o. AllKeys (IsOther p) (own_pair q o)) [ None ↦ tt | Some w ↦ (IsOther-len p q (omega arith), tt) ]

  -- the pairs are in order if those of both sides are
  pub IsOrdered-node : IsOrdered xs → IsOrdered ys → IsOrdered (own_pair q v ++ (xs ++ ys))
  IsOrdered-node h k =
      let o = IsOrdered-append (middle q) xs ys h lower_below k upper_from in
      elim v as (λ w. IsOrdered (own_pair q w ++ (xs ++ ys))) [ None ↦ o | Some w ↦ (IsBeforeAll-higher q (xs ++ ys) sides_higher, o) ]

  -- the look-up

  pub get-lower : (p : Prefix) → q.len < p.len → p.base < middle q → get (own_pair q v ++ (xs ++ ys)) p ≡ get xs p
  get-lower p h k =
      get-skip (own_pair q v) (xs ++ ys) p (own_other p h)
      ∙ get-front xs ys p (upper_other p k)

  pub get-upper : (p : Prefix) → q.len < p.len → middle q ≤ p.base → get (own_pair q v ++ (xs ++ ys)) p ≡ get ys p
  get-upper p h k =
      get-skip (own_pair q v) (xs ++ ys) p (own_other p h)
      ∙ get-skip xs ys p (lower_other p k)

  pub rest_other : (p : Prefix) → p.len ≤ q.len → AllKeys (IsOther p) (xs ++ ys)
  rest_other p h = AllKeys-map (λ x. q.len < x.len) (IsOther p) (xs ++ ys) (λ x k. IsOther-len p x (omega arith)) sides_longer

  pub get-here : (p : Prefix) → p.len ≤ q.len → same_prefix q p ≡ true → get (own_pair q v ++ (xs ++ ys)) p ≡ v
  get-here p h e = elim v as (λ o. get (own_pair q o ++ (xs ++ ys)) p ≡ o) [ None ↦ get-none (xs ++ ys) p (rest_other p h) | Some w ↦ rw e refl ]

  pub get-past : (p : Prefix) → p.len ≤ q.len → same_prefix q p ≡ false → get (own_pair q v ++ (xs ++ ys)) p ≡ None
  get-past p h e =
      let n = get-none (xs ++ ys) p (rest_other p h) in
      elim v as (λ o. get (own_pair q o ++ (xs ++ ys)) p ≡ None) [ None ↦ n | Some w ↦ rw e n ]

-- a prefix within a block doesn't cover an address outside it
pub covers-outside : (lo hi len : ℕ) (x : Prefix) (a : Addr) → (a.0 < lo) ⊎ (hi ≤ a.0) → IsInBlock lo hi len x → covers x a ≡ false
covers-outside lo hi len x a o w = elim (covers_tells x a) [
  | inr n ↦ n.0
  | inl r ↦ elim o [ inl lt ↦ absurd (omega (arith, w.from, r.1)) | inr ge ↦ absurd (omega (arith, w.to, r.2)) ]
]

module _ {V : Type 0} (q : Prefix) (v : Option V) (xs ys : Pairs V) (sides : AreSides q xs ys) (a : Addr) where
  -- pairs in one half don't cover addresses in the other, and pairs below a prefix only cover addresses that it covers
  pub upper_clear : a.0 < middle q → AllKeys (λ x. covers x a ≡ false) ys
  upper_clear h =
      AllKeys-map (IsInBlock (middle q) (past q) (q.len + 1)) (λ x. covers x a ≡ false) ys
      (λ x w. covers-outside (middle q) (past q) (q.len + 1) x a (inl h) w) sides.upper

  pub lower_clear : middle q ≤ a.0 → AllKeys (λ x. covers x a ≡ false) xs
  lower_clear h =
      AllKeys-map (IsInBlock q.base (middle q) (q.len + 1)) (λ x. covers x a ≡ false) xs
      (λ x w. covers-outside q.base (middle q) (q.len + 1) x a (inr h) w) sides.lower

  pub rest_clear : covers q a ≡ false → AllKeys (λ x. covers x a ≡ false) (xs ++ ys)
  rest_clear h =
      let o = outside_of_covers q a h in
      AllKeys-append (λ x. covers x a ≡ false) xs ys
      (AllKeys-map (IsInBlock q.base (middle q) (q.len + 1)) (λ x. covers x a ≡ false) xs
      (λ x w. covers-outside q.base (past q) (q.len + 1) x a o
      (record { long = w.long; from = w.from; to = omega (arith, w.to) })) sides.lower)
      (AllKeys-map (IsInBlock (middle q) (past q) (q.len + 1)) (λ x. covers x a ≡ false) ys
      (λ x w. covers-outside q.base (past q) (q.len + 1) x a o
      (record { long = w.long; from = omega (arith, w.from); to = w.to })) sides.upper)

  -- if nothing in the upper half covers the address, the longest match is in the lower one, or the node's own pair
  pub cover-left : last_cover ys a ≡ None → last_cover (own_pair q v ++ (xs ++ ys)) a ≡ or_else (last_cover xs a) (last_cover (own_pair q v) a)
  cover-left none =
      last_cover-append (own_pair q v) (xs ++ ys) a
      ∙ ap (λ o. or_else o (last_cover (own_pair q v) a)) (last_cover-append xs ys a ∙ ap (λ o. or_else o (last_cover xs a)) none)

  -- if the address is in the upper half, the longest match is there, or the node's own pair
  pub cover-upper : middle q ≤ a.0 → last_cover (own_pair q v ++ (xs ++ ys)) a ≡ or_else (last_cover ys a) (last_cover (own_pair q v) a)
  cover-upper h =
      let none : last_cover xs a ≡ None = last_cover-none xs a (lower_clear h) in
      last_cover-append (own_pair q v) (xs ++ ys) a
      ∙ ap (λ o. or_else o (last_cover (own_pair q v) a))
      (last_cover-append xs ys a ∙ ap (λ o. or_else (last_cover ys a) o) none ∙ or_none (last_cover ys a))

  -- an address that the node doesn't cover has no match
  pub cover-none : covers q a ≡ false → last_cover (own_pair q v ++ (xs ++ ys)) a ≡ None
  cover-none h =
      let none = last_cover-none (xs ++ ys) a (rest_clear h) in
      elim v as (λ w. last_cover (own_pair q w ++ (xs ++ ys)) a ≡ None) [ None ↦ none | Some w ↦ rw (none, h) refl ]

-- the list is a node's own pair followed by those of its two sides
pub record IsJoined {V : Type 0} (m : Pairs V) (q : Prefix) (v : Option V) (xs ys : Pairs V) : Type 0 where
  pub pairs_are : m ≡ own_pair q v ++ (xs ++ ys)
  pub sides : AreSides q xs ys

module _ {V : Type 0} (m : Pairs V) (q : Prefix) (v : Option V) (xs ys : Pairs V) (j : IsJoined m q v xs ys) (a : Addr) where
  -- pairs on the right don't cover an address that isn't in the upper half; a prefix of a single address has no upper
  -- half
  right_clear : (q.len < 32 → (middle q ≤ a.0 → ⊥)) → AllKeys (λ x. covers x a ≡ false) ys
  right_clear h =
      let s = q.is_prefix.short in
      elim (cases_lt q.len 32) [
        | inl lt ↦ upper_clear q v xs ys j.sides a (elim (cases_lt a.0 (middle q)) [ inl low ↦ low | inr high ↦ absurd (h lt high) ])
        | inr ge ↦ AllKeys-map (IsInBlock (middle q) (past q) (q.len + 1)) (λ x. covers x a ≡ false) ys
            (λ x w. let t = x.is_prefix.short in absurd (omega (arith, w.long))) j.sides.upper
      ]

  -- a look-up continues on one side, from the new best answer, if the parts of the list say so
  goes_on : (zs : Pairs V) (best found : Option (Prefix × V))
      → last_cover (own_pair q v ++ (xs ++ ys)) a ≡ or_else (last_cover zs a) (last_cover (own_pair q v) a)
      → or_else (last_cover (own_pair q v) a) best ≡ found → or_else (last_cover zs a) found ≡ or_else (last_cover m a) best
  goes_on zs best found here e =
      ap (λ x. or_else (last_cover zs a) x) (sym e)
      ∙ sym (ap (λ x. or_else x best) (ap (λ x. last_cover x a) j.pairs_are ∙ here)
      ∙ or_assoc (last_cover zs a) (last_cover (own_pair q v) a) best)

  -- a look-up continues on the left if nothing on the right covers the address; the node's own pair is the fallback
  pub step_left : (best found : Option (Prefix × V)) → last_cover ys a ≡ None → or_else (last_cover (own_pair q v) a) best ≡ found
      → or_else (last_cover xs a) found ≡ or_else (last_cover m a) best
  step_left best found none e = goes_on xs best found (cover-left q v xs ys j.sides a none) e

  -- a look-up continues in the half that the address is in
  pub step_lower : (best found : Option (Prefix × V)) → (q.len < 32 → (middle q ≤ a.0 → ⊥)) → or_else (last_cover (own_pair q v) a) best ≡ found
      → or_else (last_cover xs a) found ≡ or_else (last_cover m a) best
  step_lower best found h e = step_left best found (last_cover-none ys a (right_clear h)) e

  pub step_upper : (best found : Option (Prefix × V)) → middle q ≤ a.0 → or_else (last_cover (own_pair q v) a) best ≡ found
      → or_else (last_cover ys a) found ≡ or_else (last_cover m a) best
  step_upper best found h e = goes_on ys best found (cover-upper q v xs ys j.sides a h) e

  -- if the node doesn't cover the address, the best so far is the answer
  pub step_none : (best : Option (Prefix × V)) → covers q a ≡ false → best ≡ or_else (last_cover m a) best
  step_none best h = sym (ap (λ x. or_else x best) (ap (λ x. last_cover x a) j.pairs_are ∙ cover-none q v xs ys j.sides a h))

module _ {V : Type 0} (most : ℕ) where
  -- if all pairs satisfy P, so do those with at most `most` bits
  AllKeys-no_longer : (P : Prefix → Type 0) (xs : Pairs V) → AllKeys P xs → AllKeys P (no_longer most xs)
  AllKeys-no_longer P [] h = tt
  AllKeys-no_longer P ((q, v) ∷ xs) h = elim (leb_tells q.len most) [
    | inl s ↦ rw s.0 (h.0, AllKeys-no_longer P xs h.1)
    | inr l ↦ rw l.0 (AllKeys-no_longer P xs h.1)
  ]

  -- all prefixes have at most `most` bits, or all have more
  pub no_longer_all : (xs : Pairs V) → AllKeys (λ x. x.len ≤ most) xs → no_longer most xs ≡ xs
  no_longer_all [] h = refl
  no_longer_all ((q, v) ∷ xs) h = elim (leb_tells q.len most) [
    | inl s ↦ rw s.0 (ap (λ m. (q, v) ∷ m) (no_longer_all xs h.1))
    | inr l ↦ absurd (omega (arith, h.0, l.1))
  ]

  pub no_longer_none : (xs : Pairs V) → AllKeys (λ x. most < x.len) xs → no_longer most xs ≡ []
  no_longer_none [] h = refl
  no_longer_none ((q, v) ∷ xs) h = elim (leb_tells q.len most) [
    | inl s ↦ absurd (omega (arith, h.0, s.1))
    | inr l ↦ rw l.0 (no_longer_none xs h.1)
  ]

  -- if the node has at most `most` bits, the pairs with at most `most` bits are joined in the same way
  pub joined_to : (m : Pairs V) (q : Prefix) (v : Option V) (xs ys : Pairs V) → IsJoined m q v xs ys → q.len ≤ most
      → IsJoined (no_longer most m) q v (no_longer most xs) (no_longer most ys)
  joined_to m q v xs ys j h =
      let own = no_longer_all (own_pair q v) (elim v as (λ o. AllKeys (λ x. x.len ≤ most) (own_pair q o)) [ None ↦ tt | Some w ↦ (h, tt) ]) in
      record {
        pairs_are =
            ap (no_longer most) j.pairs_are ∙ filter-append (λ x. leb x.0.len most) (own_pair q v) (xs ++ ys)
            ∙ ap (λ o. o ++ no_longer most (xs ++ ys)) own ∙ ap (λ o. own_pair q v ++ o) (filter-append (λ x. leb x.0.len most) xs ys);
        sides = record {
          lower = AllKeys-no_longer (IsInBlock q.base (middle q) (q.len + 1)) xs j.sides.lower;
          upper = AllKeys-no_longer (IsInBlock (middle q) (past q) (q.len + 1)) ys j.sides.upper;
        };
      }

-- all prefixes have at most 32 bits
all_short : {V : Type 0} (m : Pairs V) → AllKeys (λ x. x.len ≤ 32) m
all_short [] = tt
all_short ((q, v) ∷ m) = (q.is_prefix.short, all_short m)

pub all_no_longer : {V : Type 0} (m : Pairs V) → no_longer 32 m ≡ m
all_no_longer m = no_longer_all 32 m (all_short m)

pub no_root_longer : (o : Option Prefix) → IfSome o (λ q. q.len ≤ 32)
no_root_longer None = tt
no_root_longer (Some q) = q.is_prefix.short

-- an equation about the pairs with at most 32 bits is one about all pairs
pub found_of_all : {V : Type 0} (m n : Pairs V) (a : Addr) (x y : Option (Prefix × V))
    → or_else (last_cover (no_longer 32 m) a) x ≡ or_else (last_cover (no_longer 32 n) a) y
    → or_else (last_cover m a) x ≡ or_else (last_cover n a) y
found_of_all m n a x y e =
    ap (λ l. or_else (last_cover l a) x) (sym (all_no_longer m)) ∙ e ∙ ap (λ l. or_else (last_cover l a) y) (all_no_longer n)

-- the best answer after a single pair with at most `most` bits: this pair if it covers the address, else the old best
pub step_single : {V : Type 0} (m : Pairs V) (q : Prefix) (w : V) (most : ℕ) (a : Addr) (best found : Option (Prefix × V)) → m ≡ (q, w) ∷ [] → q.len ≤ most
    → ((covers q a ≡ true) × (found ≡ Some (q, w))) ⊎ ((covers q a ≡ false) × (found ≡ best)) → found ≡ or_else (last_cover (no_longer most m) a) best
step_single m q w most a best found e h s =
    sym (ap (λ l. or_else (last_cover (no_longer most l) a) best) e
    ∙ ap (λ l. or_else (last_cover l a) best) (no_longer_all most ((q, w) ∷ []) (h, tt))
    ∙ elim s [ inl i ↦ rw i.0 (sym i.1) | inr i ↦ rw i.0 (sym i.1) ])

-- what a node adds to the best pair so far, for an address that it covers
pub best_stored : {V : Type 0} (q : Prefix) (v : Option V) (w : V) (a : Addr) (best : Option (Prefix × V)) → v ≡ Some w → covers q a ≡ true
    → or_else (last_cover (own_pair q v) a) best ≡ Some (q, w)
best_stored q v w a best e h = rw (e, h) refl

pub best_unstored : {V : Type 0} (q : Prefix) (v : Option V) (a : Addr) (best : Option (Prefix × V)) → v ≡ None
    → or_else (last_cover (own_pair q v) a) best ≡ best
best_unstored q v a best e = rw e refl

module _ {V : Type 0} (q : Prefix) (v : Option V) (xs ys : Pairs V) (sides : AreSides q xs ys) (p : Prefix) where
  own_until : rank q ≤ rank p → AllKeys (λ x. rank x ≤ rank p) (own_pair q v)
  own_until h = elim v as (λ o. AllKeys (λ x. rank x ≤ rank p) (own_pair q o)) [ None ↦ tt | Some w ↦ (h, tt) ]

  -- the next prefix after p is on the left, or else the first on the right, if p isn't above the node or in its upper
  -- half
  pub after-lower : rank q ≤ rank p → ((y : Prefix) → IsInBlock (middle q) (past q) (q.len + 1) y → rank p < rank y)
      → next_after (own_pair q v ++ (xs ++ ys)) p ≡ or_else (next_after xs p) (first ys)
  after-lower h k =
      after-skip (own_pair q v) (xs ++ ys) p (own_until h) ∙ after-append xs ys p
      ∙ ap (λ o. or_else (next_after xs p) o)
      (after-first ys p (AllKeys-map (IsInBlock (middle q) (past q) (q.len + 1)) (IsHigher p) ys k sides.upper))

  -- it is on the right if p is in the upper half
  pub after-upper : rank q ≤ rank p → middle q ≤ p.base → next_after (own_pair q v ++ (xs ++ ys)) p ≡ next_after ys p
  after-upper h k =
      after-skip (own_pair q v) (xs ++ ys) p (own_until h)
      ∙ after-skip xs ys p (AllKeys-map (IsLower p) (λ x. rank x ≤ rank p) xs (λ x l. omega arith) (lower_lower q v xs ys sides p k))

  -- it is the first of all if p comes before the node
  pub after-all : rank p < rank q → next_after (own_pair q v ++ (xs ++ ys)) p ≡ first (own_pair q v ++ (xs ++ ys))
  after-all h =
      after-first (own_pair q v ++ (xs ++ ys)) p
      (AllKeys-append (IsHigher p) (own_pair q v) (xs ++ ys)
      (elim v as (λ o. AllKeys (IsHigher p) (own_pair q o)) [ None ↦ tt | Some w ↦ (h, tt) ])
      (AllKeys-map (IsHigher q) (IsHigher p) (xs ++ ys) (λ x l. omega arith) (sides_higher q v xs ys sides)))

  -- it doesn't exist if p is past the node
  pub after-past : past q ≤ p.base → next_after (own_pair q v ++ (xs ++ ys)) p ≡ None
  after-past h =
      let s = p.is_prefix.short in
      after-none (own_pair q v ++ (xs ++ ys)) p
      (AllKeys-append (λ x. rank x ≤ rank p) (own_pair q v) (xs ++ ys)
      (own_until (let t = q.is_prefix.short in omega (arith, size_pos q.len)))
      (AllKeys-append (λ x. rank x ≤ rank p) xs ys
      (AllKeys-map (IsInBlock q.base (middle q) (q.len + 1)) (λ x. rank x ≤ rank p) xs
      (λ x w. let t = x.is_prefix.short in omega (arith, w.to, size_pos x.len)) sides.lower)
      (AllKeys-map (IsInBlock (middle q) (past q) (q.len + 1)) (λ x. rank x ≤ rank p) ys
      (λ x w. let t = x.is_prefix.short in omega (arith, w.to, size_pos x.len)) sides.upper)))

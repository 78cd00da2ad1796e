-- Theorems that explain the definitions for a map: look-ups, changes, and the first and the next prefix.
use Rattle.std.specs.Prelude.{◌≡◌, ◌↔◌, ◌<◌, ◌/◌, ◌%◌, Bool, false, IsTrue, [], Some, None, Contains, if◌then◌else◌}
use Rattle.rt_cidr.specs.declared.prefixes.Prefix.{Prefix}
use Rattle.rt_cidr.specs.Cidr.{size_of}
use Rattle.rt_cidr.specs.Prefix.{contains}
use Rattle.rt_trie.specs.Halves.{IsChild}
use Rattle.rt_trie.specs.Map.{Pairs, same_prefix, before, get, put, erase, first, next_after, IsStored, IsOrdered}

-- after v was inserted at p, p has the value v, and every other prefix has its old value
abbrev pub PutIsSeen : Type 0 → Type 0
PutIsSeen V = (m : Pairs V) (p : Prefix) (v : V) (q : Prefix) → get (put m p v) q ≡ (if same_prefix p q then Some v else get m q)

-- after p was removed, p has no value, and every other prefix has its old value
abbrev pub EraseIsSeen : Type 0 → Type 0
EraseIsSeen V = (m : Pairs V) (p q : Prefix) → IsOrdered m → get (erase m p) q ≡ (if same_prefix p q then None else get m q)

-- an insertion keeps the pairs in order, so no prefix is stored twice
abbrev pub PutKeepsOrder : Type 0 → Type 0
PutKeepsOrder V = (m : Pairs V) (p : Prefix) (v : V) → IsOrdered m → IsOrdered (put m p v)

-- a removal keeps the pairs in order
abbrev pub EraseKeepsOrder : Type 0 → Type 0
EraseKeepsOrder V = (m : Pairs V) (p : Prefix) → IsOrdered m → IsOrdered (erase m p)

-- a pair is in the list if and only if its value is stored at its prefix
abbrev pub PairsAreFound : Type 0 → Type 0
PairsAreFound V = (m : Pairs V) (p : Prefix) (v : V) → IsOrdered m → Contains m (p, v) ↔ (get m p ≡ Some v)

-- a map has only one list
abbrev pub MapHasOneList : Type 0 → Type 0
MapHasOneList V = (m n : Pairs V) → IsOrdered m → IsOrdered n → ((p : Prefix) → get m p ≡ get n p) → m ≡ n

-- the first prefix is the stored one with no other before it
abbrev pub FirstIsLeast : Type 0 → Type 0
FirstIsLeast V =
    (m : Pairs V) (p : Prefix) → IsOrdered m
    → (first m ≡ Some p) ↔ (IsStored m p × ((x : Prefix) → IsStored m x → before x p ≡ false))

-- there is no first prefix if and only if the map is empty
abbrev pub NoneIsFirst : Type 0 → Type 0
NoneIsFirst V = (m : Pairs V) → (first m ≡ None) ↔ (m ≡ [])

-- the next prefix after p is the stored one after p with no other in between
abbrev pub AfterIsNext : Type 0 → Type 0
AfterIsNext V =
    (m : Pairs V) (p q : Prefix) → IsOrdered m
    → (next_after m p ≡ Some q)
    ↔ (IsStored m q × IsTrue (before p q) × ((x : Prefix) → IsStored m x → IsTrue (before p x) → before x q ≡ false))

-- there is no next prefix if and only if no stored prefix comes after p
abbrev pub NoneIsAfter : Type 0 → Type 0
NoneIsAfter V = (m : Pairs V) (p : Prefix) → (next_after m p ≡ None) ↔ ((x : Prefix) → IsStored m x → before p x ≡ false)

-- a child by bits: it is longer than its parent and contained in it, and its bit after the parent's length is the
-- side's; this bit is worth half the parent's number of addresses
pub record IsChildByBit (parent : Prefix) (upper : Bool) (c : Prefix) : Type 0 where
  pub longer : parent.len < c.len
  pub contained : IsTrue (contains parent c)
  pub next_bit : (c.base / (size_of parent.len / 2)) % 2 ≡ (if upper then 1 else 0)

-- a longer prefix is in a half of a prefix's addresses if and only if it is a child by bits on that side
abbrev pub ChildByNextBit : Type 0
ChildByNextBit = (parent c : Prefix) (upper : Bool) → IsChild parent upper c ↔ IsChildByBit parent upper c

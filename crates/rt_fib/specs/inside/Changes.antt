-- What a command changes: within its prefix the answers of longer prefixes stay, and all others become one answer. The answers to all
-- other addresses stay.
use Rattle.std.specs.Prelude.{◌≡◌, ◌≢◌, ℕ, ◌+◌, ◌*◌, ◌^◌, ◌<◌, ◌≤◌, ◌⊎◌, Bool, false, nat_lt, cond, List, length, get_or, Option, Some, None}
use Rattle.rt_cidr.specs.declared.address.Addr.{Addr}
use Rattle.rt_cidr.specs.declared.prefixes.Prefix.{Prefix}
use Rattle.rt_cidr.specs.Prefix.{covers}
use Rattle.rt_cidr.specs.Cidr.{size_of}
use Rattle.rt_rib.specs.declared.routes.Route.{Route}
use Rattle.rt_rib.specs.LookUp.{look_up}
use Rattle.rt_fib.specs.declared.following.Change.{Change}
use Rattle.rt_fib.specs.declared.following.Last.{Last}
use Rattle.rt_fib.specs.declared.slabs.Group.{Group}
use Rattle.rt_fib.specs.declared.slabs.Slabs.{Slabs}
use Rattle.rt_fib.specs.declared.bounds.Span.{Span}
use Rattle.rt_fib.specs.inside.Slab.{Has, IsNumberOf}
use Rattle.rt_fib.specs.inside.Entries.{at, HasRoute, IsCoded, IsSince, Leads, IsEntry}

-- both tables answer alike each address that the prefix doesn't cover
abbrev pub PreservesLookupsOutside : Prefix → List Route → List Route → Type 0
PreservesLookupsOutside prefix old new = (addr : Addr) → covers prefix addr ≡ false → look_up addr old ≡ look_up addr new

-- no address of another entry is the prefix's
abbrev pub AreEntriesOf : Prefix → Span → Type 0
AreEntriesOf prefix span = (i k : ℕ) → i < 2 ^ 24 → k < 256 → (i < span.first) ⊎ (span.end ≤ i) → covers prefix (at (i * 256 + k)) ≡ false

-- the entries have just the prefix's addresses
pub record IsWholly (prefix : Prefix) (span : Span) : Type 0 where
  pub first : span.first * 256 ≡ prefix.base
  pub end : span.end * 256 ≡ prefix.base + size_of prefix.len

-- `count` fresh entries were put from the entry `first` on, and no other entry changed
pub record ArePut (old new fresh : List ℕ) (first count : ℕ) : Type 0 where
  pub size : length new ≡ length old
  pub there : (k : ℕ) → k < count → get_or new (first + k) 0 ≡ get_or fresh k 0
  pub before : (i : ℕ) → i < first → get_or new i 0 ≡ get_or old i 0
  pub behind : (i : ℕ) → first + count ≤ i → get_or new i 0 ≡ get_or old i 0

-- the answer is a route to a prefix longer than this
abbrev pub is_longer : ℕ → Option Route → Bool
is_longer len None = false
is_longer len (Some r) = nat_lt len r.prefix.len

-- the answer after the change of a prefix of this length to this answer
abbrev pub answer_after : ℕ → Option Route → Option Route → Option Route
answer_after len fresh old = cond (is_longer len old) old fresh

-- within the span the new table answers as after the change, and elsewhere as before it
pub record IsChange (len : ℕ) (fresh : Option Route) (span : Span) (old new : List Route) : Type 0 where
  pub within : (i k : ℕ) → span.first ≤ i → i < span.end → k < 256
      → look_up (at (i * 256 + k)) new ≡ answer_after len fresh (look_up (at (i * 256 + k)) old)
  pub outside : (i k : ℕ) → i < 2 ^ 24 → k < 256 → (i < span.first) ⊎ (span.end ≤ i)
      → look_up (at (i * 256 + k)) old ≡ look_up (at (i * 256 + k)) new

-- both tables answer alike all addresses
abbrev pub AnswerAlike : List Route → List Route → Type 0
AnswerAlike old new = (i k : ℕ) → i < 2 ^ 24 → k < 256 → look_up (at (i * 256 + k)) old ≡ look_up (at (i * 256 + k)) new

module _ {A : Type 0} where
  -- the number is that of the new answer
  abbrev pub HasNumber : Slabs A → ℕ → Change → Type 0
  HasNumber slabs epoch change = IsNumberOf slabs.routes.places (epoch + 1) change.number change.answer

  -- the number of any answer became that of the answer after the change, and no group's
  pub record IsNumberAfter (slabs : Slabs A) (epoch : ℕ) (change : Change) (old new : ℕ) : Type 0 where
    pub short : old < 2 ^ 31 → new < 2 ^ 31
    pub after : (t : ℕ) (answer : Option Route) → t ≤ epoch + 1 → HasRoute slabs t old answer
        → HasRoute slabs t new (answer_after change.len change.answer answer)

  -- so did that of the last entry, if it was short
  abbrev pub IsLast : Slabs A → ℕ → Change → Last → Type 0
  IsLast slabs epoch change last = last.entry < 2 ^ 31 → IsNumberAfter slabs epoch change last.entry last.after

  -- the first `count` numbers of a group became those of the answers after the change
  pub record AreNumbersAfter (slabs : Slabs A) (epoch : ℕ) (change : Change) (old new : List ℕ) (count : ℕ) : Type 0 where
    pub size : length new ≡ 256
    pub each : (k : ℕ) → k < count → IsNumberAfter slabs epoch change (get_or old k 0) (get_or new k 0)

  -- the routes with their codes and the groups of all other entries stay
  pub record KeepsOthers (i : ℕ) (old new : Slabs A) : Type 0 where
    pub routes : new.routes ≡ old.routes
    pub codes : new.codes ≡ old.codes
    pub groups : (t n : ℕ) (group : Group) → group.owner ≢ i → Has old.groups.places t n group → Has new.groups.places t n group

  -- for every answer to which the i-th entry led, `next` leads to the answer after the change
  abbrev pub LeadsAfter : Slabs A → Slabs A → ℕ → Change → ℕ → ℕ → ℕ → Type 0
  LeadsAfter old new epoch change i entry next =
      (t k : ℕ) (answer : Option Route) → k < 256 → t ≤ epoch + 1
      → Leads old t i entry k answer → Leads new t i next k (answer_after change.len change.answer answer)

  -- the entries before this place lead to the new table's answers, the others to the old table's
  pub record AreUntil (entries : List ℕ) (slabs : Slabs A) (epoch marked : ℕ) (old new : List Route) (place : ℕ) : Type 0 where
    pub size : length entries ≡ 2 ^ 24
    pub coded : IsCoded slabs
    pub before : (t i : ℕ) → i < place → i < 2 ^ 24 → IsSince epoch marked i t → IsEntry new slabs t i (get_or entries i 0)
    pub behind : (t i : ℕ) → place ≤ i → i < 2 ^ 24 → IsSince epoch marked i t → IsEntry old slabs t i (get_or entries i 0)

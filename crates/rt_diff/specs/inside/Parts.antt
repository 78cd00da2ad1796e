-- The differences of a part of the addresses: those from `first` on and before `end`.
use Rattle.std.specs.Prelude.{◌≡◌, ℕ, ◌+◌, ◌-◌, ◌*◌, ◌^◌, ◌<◌, ◌≤◌, ◌⊎◌, List, [], ◌∷◌, ◌++◌, length, get_or, Option, None, Some, Result, IfOk}
use Rattle.std.specs.declared.vec.Vec.{Vec}
use Rattle.std.specs.declared.alloc.Global.{Global}
use Rattle.std.specs.declared.alloc.AllocError.{AllocError}
use Rattle.rt_cidr.specs.declared.address.Addr.{Addr}
use Rattle.rt_diff.specs.declared.comparison.Difference.{Difference}
use Rattle.rt_diff.specs.Differences.{Compared, IsAlike, IsDifference, HasAnswers, HaveSameAnswers}

-- every address of the part has the same answer in both tables
abbrev pub AreAllAlike : Compared → ℕ → ℕ → Type 0
AreAllAlike tables first end = (addr : Addr) → first ≤ addr.0 → addr.0 < end → IsAlike tables.by tables.old_table tables.new_table addr

-- the first range of the part: it may go on after the part, where it is cut
pub record IsNextWithin (tables : Compared) (first end : ℕ) (d : Difference) : Type 0 where
  pub onward : first ≤ d.first.0
  pub within : d.last.0 < end
  pub before : AreAllAlike tables first d.first.0
  pub difference : IsDifference tables.by tables.old_table tables.new_table d
  pub longest : (addr : Addr) → addr.0 ≡ d.last.0 + 1 → addr.0 < end → ¬ HasAnswers tables.by tables.old_table tables.new_table addr d.old d.new

-- this range, or there is none
abbrev pub IsFirstWithin : Compared → ℕ → ℕ → Option Difference → Type 0
IsFirstWithin tables first end None = AreAllAlike tables first end
IsFirstWithin tables first end (Some d) = IsNextWithin tables first end d

-- the list of the part's ranges: each is the first one after the range before it
abbrev pub AreOfPart : Compared → ℕ → ℕ → List Difference → Type 0
AreOfPart tables first end [] = AreAllAlike tables first end
AreOfPart tables first end (d ∷ rest) = IsNextWithin tables first end d × AreOfPart tables (d.last.0 + 1) end rest

-- the list of this block, or memory ran out
abbrev pub ListsBlock : Compared → ℕ → Result (Vec Difference Global) AllocError → Type 0
ListsBlock tables block run = block < 64 → IfOk run (λ list. AreOfPart tables (block * 2 ^ 26) ((block + 1) * 2 ^ 26) list.items)

-- these are the lists of all blocks
abbrev pub ListEach : Compared → List (Result (Vec Difference Global) AllocError) → Type 0
ListEach tables runs = (block : ℕ) (none : Result (Vec Difference Global) AllocError) → block < length runs → ListsBlock tables block (get_or runs block none)

-- the second range begins right after the first, with the same answers
abbrev pub GoesOnIn : Difference → Difference → Type 0
GoesOnIn d next = (d.last.0 + 1 ≡ next.first.0) × HaveSameAnswers d next

-- both as one range
abbrev pub up_to : Difference → Addr → Difference
up_to d last = record { first = d.first; last = last; old = d.old; new = d.new }

-- a range, and those of the next part: if it goes on in the first of them, the two are one
pub record ArePutAfter (d : Difference) (more list : List Difference) : Type 0 where
  pub next : Difference
  pub rest : List Difference
  pub more_are : more ≡ next ∷ rest
  pub put : (GoesOnIn d next × (list ≡ up_to d next.last ∷ rest)) ⊎ ((¬ GoesOnIn d next) × (list ≡ d ∷ more))

-- the list, and the ranges of the next part
pub record AreJoinedAt (list more all : List Difference) : Type 0 where
  pub before : List Difference
  pub d : Difference
  pub behind : List Difference
  pub list_is : list ≡ before ++ d ∷ []
  pub put : ArePutAfter d more behind
  pub all_are : all ≡ before ++ behind

-- which are as they were if there are no others
abbrev pub AreJoined : List Difference → List Difference → List Difference → Type 0
AreJoined list more all = ((more ≡ []) × (all ≡ list)) ⊎ (((list ≡ []) × (all ≡ more)) ⊎ AreJoinedAt list more all)

-- the number of addresses from the next range on
abbrev pub addresses_from : Option Difference → ℕ
addresses_from None = 0
addresses_from (Some d) = 2 ^ 32 - d.first.0

-- the list has the ranges of the part before this next one, or all of them
pub record IsListing (tables : Compared) (first end : ℕ) (next : Option Difference) (list : List Difference) : Type 0 where
  pub from : ℕ
  pub is_next : IsFirstWithin tables from end next
  pub so_far : (rest : List Difference) → AreOfPart tables from end rest → AreOfPart tables first end (list ++ rest)

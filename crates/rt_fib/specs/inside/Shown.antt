-- Numbers of next hops that stand for the numbers of answers.
use Rattle.std.specs.Prelude.{◌≡◌, ℕ, ◌/◌, ◌%◌, ◌^◌, ◌<◌, ◌≤◌, nat_lt, if◌then◌else◌, List, length, get_or, Option}
use Rattle.rt_rib.specs.declared.routes.Route.{Route}
use Rattle.rt_fib.specs.Views.{IsNumber}
use Rattle.rt_fib.specs.declared.slabs.Group.{Group}

-- the first numbers of the one list are those of the other
pub record Extends (old new : List ℕ) : Type 0 where
  pub longer : length old ≤ length new
  pub same : (n : ℕ) → n < length old → get_or new n 0 ≡ get_or old n 0

-- these are the numbers of the next hops of the first `count` answers
pub record AreHopsOf (routers numbers : List ℕ) (answers : List (Option Route)) (count : ℕ) : Type 0 where
  pub size : length numbers ≡ count
  pub each : (n : ℕ) (d : Option Route) → n < count → IsNumber routers (get_or numbers n 0) (get_or answers n d)

-- the number of an answer becomes that of its next hop, and the name of a block stays
abbrev pub shown_entry : List ℕ → ℕ → ℕ
shown_entry numbers entry = if nat_lt entry (2 ^ 31) then get_or numbers entry 0 else entry

-- the first `count` numbers of the blocks, one block after another, became those of their next hops
pub record AreShownBlocks (numbers : List ℕ) (blocks : List Group) (old shown : List ℕ) (count : ℕ) : Type 0 where
  pub size : length shown ≡ length old
  pub each : (i : ℕ) (d : Group) → i < count → get_or shown i 0 ≡ get_or numbers (get_or (get_or blocks (i / 256) d).numbers (i % 256) 0) 0

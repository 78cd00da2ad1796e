-- The seats of passes, of guards and of processes on their way in and out, and the progress of these processes.
use Rattle.std.specs.Prelude.{◌≡◌, ℕ, ◌*◌, ◌^◌, ◌<◌, ◌≤◌, Bool, true, false, [], ◌∷◌, Some, None, ◌⊎◌}
use Rattle.std.specs.Prelude as std
use Rattle.atomic_table.specs.Table.{Me}
use Rattle.ya_core.specs.declared.limits.TheConstants.{MAX_LEVELS}
use Rattle.ya_core.specs.declared.process.EntryPoint.TheVariants.{E1, E7, E8, E9, E10}
use Rattle.ya_core.specs.declared.process.ExitPoint.TheVariants.{X1, X3}
use Rattle.ya_core.specs.declared.process.Process.{Process}
use Rattle.ya_core.specs.declared.process.Process.TheVariants.{Idle, Inside, Entering, Leaving}
use Rattle.ya_core.specs.Steps.{after_entry}
use Rattle.ya_core.specs.WalkerModel.{Walk}
use Rattle.ya_lock.specs.declared.rule.View.{View}
use Rattle.ya_lock.specs.declared.rule.View.TheVariants.{Seated, Watching}
use Rattle.ya_lock.specs.Rule.{row_length, BellKnowledge, Vain, free, view_at}
use Rattle.ya_lock.specs.Lock.{LockId, IdlePass, OpenGuard}

-- the table has the words of a tree of this many levels, the making word, and the bells
abbrev pub HasTree : LockId → ℕ → Type 0
HasTree lock levels = lock.words ≡ row_length levels

-- the constant parts of a place on its way: its lock, the place, and the value that it has seen, or leaves on its
-- way out
pub record WayOf (V : Type 0) : Type 0 where
  pub lock : LockId
  pub place : ℕ
  pub seen : V

-- a place on its way: its constant parts, its walk, and whether it has looked in vain since it last stored in its own
-- bell
pub record OnWay (V : Type 0) : Type 0 where
  pub of : WayOf V
  pub walk : Walk
  pub vain : Bool

-- the constant parts of a pass
abbrev pub way_of : {V : Type 0} → IdlePass V → WayOf V
way_of pass = record { lock = pass.lock; place = pass.place; seen = pass.seen }

-- the guard of a place that has come inside, found this value and made `remote` remote accesses
abbrev pub guard_at : {V : Type 0} → WayOf V → V → ℕ → OpenGuard V
guard_at way found remote = record {
  lock = way.lock;
  place = way.place;
  found = found;
  value = found;
  remote = remote;
  view = Seated way.place Inside found remote;
}

-- the place is one of the tree's
pub record HasPlace (lock : LockId) (place : ℕ) : Type 0 where
  pub levels : ℕ
  pub words : HasTree lock levels
  pub below : place < 2 ^ levels

-- the table of a lock of `levels` levels: it has the words of their tree and one slot, and its key is their number
pub record IsLockTable (levels : ℕ) (key : ℕ) (table : LockId) : Type 0 where
  pub least : 1 ≤ levels
  pub most : levels ≤ MAX_LEVELS
  pub told : key ≡ levels
  pub words : HasTree table levels
  pub slots : table.slots ≡ 1

module _ {V : Type 0} where
  -- the view has the place's process, which has seen the value, and which has made `remote` remote accesses since its
  -- entry began. An idle process has made none of the next entry, and any number in its last passage
  abbrev pub HasMade : ℕ → V → Process → ℕ → View V → Type 0
  HasMade place value Idle remote view = (last : ℕ) × (view ≡ Seated place Idle value last) × (remote ≡ 0)
  HasMade place value process remote view = (vain : Bool) × (view ≡ view_at (free vain) place process value remote)

  -- the seat of a pass: its process is idle, its last passage made `remote` remote accesses, and it has no slot
  pub record SeatIdle (lock : LockId) (place : ℕ) (seen : V) (remote : ℕ)
      (me : Me (std.Option V) (View V)) : Type 0 where
    pub process : me ≡ (Seated place Idle seen remote, [])
    pub in_tree : HasPlace lock place

  -- the seat of a guard: its process is inside, its entry made `remote` remote accesses, and it has the slot of
  -- the value
  pub record SeatInside (lock : LockId) (place : ℕ) (found : V) (remote : ℕ)
      (me : Me (std.Option V) (View V)) : Type 0 where
    pub process : me ≡ (Seated place Inside found remote, (0, None) ∷ [])
    pub in_tree : HasPlace lock place
    pub count : (levels : ℕ) → HasTree lock levels → remote ≤ 7 * levels

  -- the seat of a place on its way, by its process. At the begin of an entry it has the view of its last passage's end.
  -- Inside it has the slot with the value found, which others may have made of the value seen; at the begin of an exit
  -- it has the slot with the value that it leaves
  abbrev SeatAt : (since done : ℕ → V → V → Type 0) → ℕ → V → Process → Bool → ℕ → Me (std.Option V) (View V) → Type 0
  SeatAt since done place seen Idle true remote me =
      (remote ≡ 0) × ((last : ℕ) × (me ≡ (Seated place Idle seen last, [])))
  SeatAt since done place seen Inside true remote me =
      (found : V) × done place found seen × (me ≡ (Seated place Inside found remote, (0, Some seen) ∷ []))
  SeatAt since done place seen Inside false remote me =
      (found : V) × since place seen found × (me ≡ (Seated place Inside found remote, (0, Some found) ∷ []))
  SeatAt since done place seen (Entering level point) begun remote me =
      (begun ≡ false) × ((vain : Bool) × (me ≡ (view_at (free vain) place (Entering level point) seen remote, [])))
  SeatAt since done place seen process begun remote me = (begun ≡ false) × (me ≡ (Seated place process seen remote, []))

  -- the seat of a walk: it has the walk's process and number of remote accesses
  abbrev pub SeatOf : (since done : ℕ → V → V → Type 0) → V → Walk → Me (std.Option V) (View V) → Type 0
  SeatOf since done seen w me = SeatAt since done w.place seen w.process w.begun w.remote me

  -- the seat is one of the lock's table, and agrees with the walk, a walk of the place in a tree of `levels` levels
  pub record IsOnWay (since done : ℕ → V → V → Type 0) (levels : ℕ) (lock table : LockId) (place : ℕ) (seen : V) (w : Walk)
      (me : Me (std.Option V) (View V)) : Type 0 where
    pub own : table ≡ lock
    pub tree : w.levels ≡ levels
    pub at : w.place ≡ place
    pub seat : SeatOf since done seen w me

-- the process is about to make the first access of a level
abbrev pub IsAtFoot : Walk → Type 0
IsAtFoot w = ((w.process ≡ Idle) × (w.begun ≡ true)) ⊎ ((level : ℕ) × (w.process ≡ Entering level E1))

-- the process has won a level: it is about to make the first access of the next, or inside
abbrev pub HasWon : Process → Type 0
HasWon (Entering level E1) = Unit {0}
HasWon Inside = Unit {0}
HasWon _ = ⊥

-- the wait of a process is over: from e8 it has come to e9, and from e10 it has won the level
abbrev pub HasPassed : ℕ → Process → Walk → Type 0
HasPassed levels (Entering level E8) after = (after.process ≡ Entering level E9) × (after.begun ≡ false)
HasPassed levels (Entering level E10) after = (after.process ≡ after_entry levels level) × (after.begun ≡ false)
HasPassed levels _ after = ⊥

-- one look at its spin word: it still waits, or its wait is over
abbrev pub HasLooked : ℕ → Process → Walk → Type 0
HasLooked levels before after = (after.process ≡ before) ⊎ HasPassed levels before after

-- the process has released a level: it is about to make the first access of the one below, or idle
abbrev pub IsReleased : Process → Type 0
IsReleased Idle = Unit {0}
IsReleased (Leaving level X1) = Unit {0}
IsReleased _ = ⊥

-- its walk has just released a level
abbrev pub HasReleased : Walk → Type 0
HasReleased w = IsReleased w.process × (w.begun ≡ false)

-- the due access is the store in the spin word of the rival: e7, or x3
abbrev pub StoresFor : ℕ → Process → Type 0
StoresFor rival process = (level : ℕ) × ((process ≡ Entering level (E7 rival)) ⊎ (process ≡ Leaving level (X3 rival)))

-- the due access is such a store
abbrev pub is_to_ring : Process → Bool
is_to_ring (Entering level (E7 rival)) = true
is_to_ring (Leaving level (X3 rival)) = true
is_to_ring _ = false

-- this knowledge is that the seat has looked in vain
abbrev pub is_vain : BellKnowledge → Bool
is_vain Vain = true
is_vain _ = false

-- a seat of this view has looked in vain
abbrev pub has_looked_in_vain : {V : Type 0} → View V → Bool
has_looked_in_vain (Watching place process value count) = true
has_looked_in_vain _ = false

-- the seat is that of the place's process, and owes no ring
abbrev pub IsFreeSeat : {V : Type 0} → ℕ → View V → Type 0
IsFreeSeat {V} place view =
    (vain : Bool)
    × ((process : Process) × ((value : V) × ((count : ℕ) × (view ≡ view_at (free vain) place process value count))))

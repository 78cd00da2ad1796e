-- A lock, a pass and a guard in the view of contracts.
use Rattle.std.specs.Prelude.{◌≡◌, ℕ, ◌^◌, ◌<◌, List, length, slice_get}
use Rattle.std.specs.Prelude.{Some}
use Rattle.atomic_table.specs.Seated.{TableId}
use Rattle.ya_core.specs.declared.process.Process.TheVariants.{Idle, Inside}
use Rattle.ya_core.specs.WalkerModel.{Walk, WalkLeadsTo}
use Rattle.ya_lock.specs.declared.rule.View.{View}
use Rattle.ya_lock.specs.declared.rule.View.TheVariants.{Seated}

-- the identity of a lock: no two locks have the same
abbrev pub LockId : Type 0
LockId = TableId

-- a pass: its lock and place, the lent value as it has last seen it, the remote accesses of its last passage, and the
-- view of its seat
pub record IdlePass (V : Type 0) : Type 0 where
  pub lock : LockId
  pub place : ℕ
  pub seen : V
  pub remote : ℕ
  pub view : View V

-- a guard: its lock and place, the lent value as it was found and as it is now, the remote accesses of its acquisition,
-- and the view of its seat
pub record OpenGuard (V : Type 0) : Type 0 where
  pub lock : LockId
  pub place : ℕ
  pub found : V
  pub value : V
  pub remote : ℕ
  pub view : View V

-- the guard that a pass becomes, after an acquisition that found this value with `remote` remote accesses: its process
-- is inside
abbrev pub guard_of : {V : Type 0} → IdlePass V → V → ℕ → OpenGuard V
guard_of pass found remote = record {
  lock = pass.lock;
  place = pass.place;
  found = found;
  value = found;
  remote = remote;
  view = Seated pass.place Inside found remote;
}

-- the pass that a guard becomes: it has seen the value that the guard leaves, and its process is idle
abbrev pub pass_of : {V : Type 0} → OpenGuard V → ℕ → IdlePass V
pass_of guard remote = record {
  lock = guard.lock;
  place = guard.place;
  seen = guard.value;
  remote = remote;
  view = Seated guard.place Idle guard.value remote;
}

-- some values, each of which the due access may find, lead one after another from the walk to the other one
abbrev pub WalksTo : Walk → Walk → Type 0
WalksTo start end = (values : List ℕ) × WalkLeadsTo start values end

-- the pass of a place that has not been inside yet: its process is idle
abbrev pub new_pass : {V : Type 0} → LockId → ℕ → V → IdlePass V
new_pass lock place value =
    record { lock = lock; place = place; seen = value; remote = 0; view = Seated place Idle value 0 }

-- the passes of all places of a lock of `levels` levels in order; each has seen the value
pub record ArePassesInOrder {V : Type 0} (lock : LockId) (levels : ℕ) (value : V) (passes : List (IdlePass V)) : Type 0 where
  pub count : length passes ≡ 2 ^ levels
  pub each : (place : ℕ) → place < 2 ^ levels → slice_get passes place ≡ Some (new_pass lock place value)
